use Rattle.std.proofs.Common.{length}
use Rattle.zruns.proofs.sums.+add_row.Given as goal

abbrev pub decreases-add_row : goal.decreases-add_row
decreases-add_row l = length l.indices.now
