use Rattle.std.proofs.Common.{refl}
use Rattle.zengine.proofs.outside.Outside.lacks_number.Goals as goal

pub returns-in-Counting : goal.returns-in-Counting
returns-in-Counting c = rw c.in-Counting.is (_, refl, refl)
