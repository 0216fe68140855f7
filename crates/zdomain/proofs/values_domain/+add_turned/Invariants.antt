use Rattle.std.proofs.Common.{length}
use Rattle.zdomain.proofs.values_domain.+add_turned.Given as goal

abbrev pub decreases-add_turned : goal.decreases-add_turned
decreases-add_turned l = length l.words.now
