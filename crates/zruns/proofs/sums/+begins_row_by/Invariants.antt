use Rattle.std.proofs.Common.{length}
use Rattle.zruns.proofs.sums.+begins_row_by.Given as goal

abbrev pub decreases-begins_row_by : goal.decreases-begins_row_by
decreases-begins_row_by l = length l.indices.now
