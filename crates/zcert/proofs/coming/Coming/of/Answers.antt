use Rattle.std.proofs.Common.{rules}
use Rattle.zcert.proofs.Words.{none_came}
use Rattle.zcert.proofs.coming.Coming.of.Goals as goal

pub invariant_of-result : goal.invariant_of-result
invariant_of-result c = record { coming = rw c.new.ensures (none_came c.args.count (search rules) (search rules)) }
