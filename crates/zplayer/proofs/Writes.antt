-- What is said of an error, and of steps that gave something out.
use Rattle.std.proofs.Common.{◌≡◌, ◌≢◌, ◌<◌, ℕ, zero, suc, List, [], ◌++◌, false, ap, ◌∙◌, arith}
use Rattle.std.specs.Prelude.{Result, Ok, Err, OnErr, is_ok}
use Rattle.zfault.specs.declared.item.Item.{Item}
use Rattle.zstate.specs.State.{Setting, State}
use Rattle.zstate.specs.Run.{Makes}

pub refused : {T E : Type 0} (r : Result T E) (P : Type 0) → false ≡ is_ok r → OnErr r P → P
refused (Ok x) P e h = absurd (grind (arith, e))
refused (Err x) P e h = h

-- where something is held that wasn't, a step was made
pub moved : (m : Setting) (n : ℕ) (old new : State) (before items : List Item) → Makes m n old new before items → before ≡ [] → items ≢ [] → 0 < n
moved m zero old new before items made empty held = absurd (held (made.items_are ∙ ap (λ (l : List Item). l ++ made.given) empty ∙ made.goes.1))
moved m (suc n) old new before items made empty held = omega arith
