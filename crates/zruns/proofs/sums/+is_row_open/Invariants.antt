use Rattle.std.proofs.Common.{length}
use Rattle.zruns.proofs.sums.+is_row_open.Given as goal

abbrev pub decreases-is_row_open : goal.decreases-is_row_open
decreases-is_row_open l = length l.indices.now
