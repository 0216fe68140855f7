use Rattle.std.proofs.Common.{length}
use Rattle.zdomain.proofs.few.+last_behind.Given as goal

abbrev pub decreases-last_behind : goal.decreases-last_behind
decreases-last_behind l = length l.words.now
