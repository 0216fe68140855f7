use Rattle.std.proofs.Common.{length}
use Rattle.zdomain.proofs.few.+rises_behind.Given as goal

abbrev pub decreases-rises_behind : goal.decreases-rises_behind
decreases-rises_behind l = length l.words.now
