use Rattle.zbatch.proofs.Goes.{SoFar}
use Rattle.zbatch.proofs.work.work_through.Given as goal

-- the first files ended so, which is counted, and whatever comes of the others completes the work
abbrev pub invariant-loop-name : goal.invariant-loop-name
invariant-loop-name g l = SoFar g.W.Work.Does l.names l.fn.work l.name-index l.tally l.work
