use Rattle.std.proofs.Common.{length}
use Rattle.zflow.proofs.local_sets.LocalSets.+are_within_from.Given as goal

abbrev pub decreases-are_within_from : goal.decreases-are_within_from
decreases-are_within_from g l = length l.to.now
