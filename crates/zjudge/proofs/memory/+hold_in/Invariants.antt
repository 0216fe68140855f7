use Rattle.std.proofs.Common.{length}
use Rattle.zjudge.proofs.memory.+hold_in.Given as goal

abbrev pub decreases-hold_in : goal.decreases-hold_in
decreases-hold_in g l = length l.facts.now
