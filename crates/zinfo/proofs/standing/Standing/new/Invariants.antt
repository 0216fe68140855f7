use Rattle.std.proofs.Common.{◌≡◌, vec_len}
use Rattle.zinfo.specs.Walked.{AreStanding}
use Rattle.zinfo.proofs.standing.Standing.new.Given as goal

-- what stands at the addresses so far
abbrev pub invariant-loop-address : goal.invariant-loop-address
invariant-loop-address l = AreStanding l.memory l.table.items × (vec_len l.table ≡ l.address) × (l.ends ≡ l.memory)
