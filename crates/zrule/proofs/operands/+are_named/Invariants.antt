use Rattle.std.proofs.Common.{length}
use Rattle.zrule.proofs.operands.+are_named.Given as goal

abbrev pub decreases-are_named : goal.decreases-are_named
decreases-are_named g l = length l.operands.now
