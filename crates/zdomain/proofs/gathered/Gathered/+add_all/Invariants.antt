use Rattle.std.proofs.Common.{length}
use Rattle.zdomain.proofs.gathered.Gathered.+add_all.Given as goal

abbrev pub decreases-add_all : goal.decreases-add_all
decreases-add_all l = length l.words.now
