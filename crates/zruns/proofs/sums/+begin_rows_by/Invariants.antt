use Rattle.std.proofs.Common.{length}
use Rattle.zruns.proofs.sums.+begin_rows_by.Given as goal

abbrev pub decreases-begin_rows_by : goal.decreases-begin_rows_by
decreases-begin_rows_by l = length l.arrays.now
