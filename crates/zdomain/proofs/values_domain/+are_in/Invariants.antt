use Rattle.std.proofs.Common.{length}
use Rattle.zdomain.proofs.values_domain.+are_in.Given as goal

abbrev pub decreases-are_in : goal.decreases-are_in
decreases-are_in l = length l.words.now
