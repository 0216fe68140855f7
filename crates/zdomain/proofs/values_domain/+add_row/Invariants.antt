use Rattle.std.proofs.Common.{length}
use Rattle.zdomain.proofs.values_domain.+add_row.Given as goal

abbrev pub decreases-add_row : goal.decreases-add_row
decreases-add_row l = length l.others.now
