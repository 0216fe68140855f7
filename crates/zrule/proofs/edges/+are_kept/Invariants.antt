use Rattle.std.proofs.Common.{length}
use Rattle.zrule.proofs.edges.+are_kept.Given as goal

abbrev pub decreases-are_kept : goal.decreases-are_kept
decreases-are_kept g l = length l.facts.now
