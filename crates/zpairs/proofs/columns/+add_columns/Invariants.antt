use Rattle.std.proofs.Common.{length}
use Rattle.zpairs.proofs.columns.+add_columns.Given as goal

abbrev pub decreases-add_columns : goal.decreases-add_columns
decreases-add_columns l = length l.numbers.now
