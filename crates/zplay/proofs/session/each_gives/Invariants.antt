use Rattle.zplay.proofs.Giving.{GiveFirst}
use Rattle.zplay.proofs.session.each_gives.Given as goal

abbrev pub invariant-loop-routine : goal.invariant-loop-routine
invariant-loop-routine g l = record { first : GiveFirst g.V.Domain.operations l.routine-items l.routine-index }
