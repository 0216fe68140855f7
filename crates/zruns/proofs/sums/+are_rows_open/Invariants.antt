use Rattle.std.proofs.Common.{length}
use Rattle.zruns.proofs.sums.+are_rows_open.Given as goal

abbrev pub decreases-are_rows_open : goal.decreases-are_rows_open
decreases-are_rows_open l = length l.arrays.now
