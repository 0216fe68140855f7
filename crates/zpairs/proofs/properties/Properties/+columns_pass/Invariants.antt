use Rattle.std.proofs.Common.{length}
use Rattle.zpairs.proofs.properties.Properties.+columns_pass.Given as goal

abbrev pub decreases-columns_pass : goal.decreases-columns_pass
decreases-columns_pass l = length l.columns.now
