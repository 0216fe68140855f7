-- The last of a list.
use Rattle.std.proofs.Common.{◌≡◌, ◌∙◌, sym, List, [], ◌∷◌, ◌++◌, Some, refl, ap}
use Rattle.std.specs.Option.{unwrap_or}
use Rattle.zdebug.specs.Places.{last_of}

last_pushed : {A : Type 0} (front : List A) (x : A) → last_of (front ++ x ∷ []) ≡ Some x
last_pushed [] x = refl
last_pushed (y ∷ front) x = ap (λ o. Some (unwrap_or o y)) (last_pushed front x)

pub last_is : {A : Type 0} (l front : List A) (x : A) → l ≡ front ++ x ∷ [] → Some x ≡ last_of l
last_is l front x h = sym (ap last_of h ∙ last_pushed front x)
