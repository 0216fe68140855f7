use Rattle.std.proofs.Common.{refl}
use Rattle.zengine.proofs.outside.is_no_word.Goals as goal

pub returns-in-Random : goal.returns-in-Random
returns-in-Random c = λ range. rw c.in-Random.is (_, refl, refl)
