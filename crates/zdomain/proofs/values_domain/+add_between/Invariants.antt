use Rattle.std.proofs.Common.{length}
use Rattle.zdomain.proofs.values_domain.+add_between.Given as goal

abbrev pub decreases-add_between : goal.decreases-add_between
decreases-add_between l = length l.words.now
