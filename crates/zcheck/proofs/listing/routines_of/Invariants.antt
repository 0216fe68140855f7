use Rattle.std.proofs.Common.{◌≡◌, map, take}
use Rattle.zcheck.proofs.listing.routines_of.Given as goal

abbrev pub invariant-loop-routine : goal.invariant-loop-routine
invariant-loop-routine g l = l.routines.items ≡ map (λ r. r.address) (take l.routine-index l.certificate.routines)
