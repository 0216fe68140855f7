use Rattle.std.proofs.Common.{length}
use Rattle.zdomain.proofs.rising.+has_row.Given as goal

abbrev pub decreases-has_row : goal.decreases-has_row
decreases-has_row l = length l.words.now
