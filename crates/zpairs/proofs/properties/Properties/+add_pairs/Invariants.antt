use Rattle.std.proofs.Common.{length}
use Rattle.zpairs.proofs.properties.Properties.+add_pairs.Given as goal

abbrev pub decreases-add_pairs : goal.decreases-add_pairs
decreases-add_pairs l = length l.objects.now
