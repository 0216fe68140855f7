use Rattle.std.proofs.Common.{◌≡◌}
use Rattle.zfind.proofs.obstacles.certain_obstacle.Given as goal

abbrev pub invariant-loop-index : goal.invariant-loop-index
invariant-loop-index l = l.ends ≡ l.story.memory
