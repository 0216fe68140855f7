use Rattle.std.proofs.Common.{length}
use Rattle.zdomain.proofs.values_domain.+least_among.Given as goal

abbrev pub decreases-least_among : goal.decreases-least_among
decreases-least_among l = length l.words.now
