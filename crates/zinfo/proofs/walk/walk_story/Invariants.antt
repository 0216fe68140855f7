use Rattle.zinfo.specs.Walked.{IsOnWay, work}
use Rattle.zinfo.proofs.walk.walk_story.Given as goal

abbrev pub invariant-loop-address : goal.invariant-loop-address
invariant-loop-address l = IsOnWay l.story l.walk

abbrev pub decreases-loop-address : goal.decreases-loop-address
decreases-loop-address l = work l.walk
