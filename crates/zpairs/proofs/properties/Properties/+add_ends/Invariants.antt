use Rattle.std.proofs.Common.{length}
use Rattle.zpairs.proofs.properties.Properties.+add_ends.Given as goal

abbrev pub decreases-add_ends : goal.decreases-add_ends
decreases-add_ends l = length l.columns.now
