use Rattle.std.proofs.Common.{length}
use Rattle.zflow.proofs.global_sets.+stated.Given as goal

abbrev pub decreases-stated : goal.decreases-stated
decreases-stated g l = length l.facts.now
