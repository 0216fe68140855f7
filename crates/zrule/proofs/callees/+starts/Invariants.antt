use Rattle.std.proofs.Common.{length}
use Rattle.zrule.proofs.callees.+starts.Given as goal

abbrev pub decreases-starts : goal.decreases-starts
decreases-starts g l = length l.locals.now
