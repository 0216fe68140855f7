use Rattle.std.proofs.Common.{length}
use Rattle.zflow.proofs.slot_sets.+each_within.Given as goal

abbrev pub decreases-each_within : goal.decreases-each_within
decreases-each_within g l = length l.from.now
