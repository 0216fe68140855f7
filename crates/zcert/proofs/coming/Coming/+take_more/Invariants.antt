use Rattle.std.proofs.Common.{length}
use Rattle.zcert.proofs.coming.Coming.+take_more.Given as goal

abbrev pub decreases-take_more : goal.decreases-take_more
decreases-take_more l = length l.bytes.now
