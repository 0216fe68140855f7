use Rattle.std.proofs.Common.{length}
use Rattle.zpairs.proofs.properties.Properties.+objects_pass.Given as goal

abbrev pub decreases-objects_pass : goal.decreases-objects_pass
decreases-objects_pass l = length l.objects.now
