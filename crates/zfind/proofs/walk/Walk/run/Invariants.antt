use Rattle.zfind.specs.Finding.{IsLess}
use Rattle.zfind.proofs.walk.Walk.run.Given as goal

abbrev pub invariant-loop-index : goal.invariant-loop-index
invariant-loop-index g l = IsLess l.left l.fn.left

abbrev pub decreases-loop-index : goal.decreases-loop-index
decreases-loop-index g l = l.left.visits
