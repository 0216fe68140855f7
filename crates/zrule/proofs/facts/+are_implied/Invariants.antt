use Rattle.std.proofs.Common.{length}
use Rattle.zrule.proofs.facts.+are_implied.Given as goal

abbrev pub decreases-are_implied : goal.decreases-are_implied
decreases-are_implied g l = length l.facts.now
