-- What a step that wasn't refused has told.
use Rattle.std.proofs.Common.{◌≡◌, Bool, true, false, Result, Ok, Err, refl}
use Rattle.zquetzal.specs.declared.error.SaveError.{SaveError}
use Rattle.zquetzal.specs.Steps.{◌>>=◌, need}

-- the value of a step that did not fail
pub bind_ok : {A B : Type 0} (r : Result A SaveError) (f : A → Result B SaveError) (y : B) → (r >>= f) ≡ Ok y → (x : A) × (r ≡ Ok x) × (f x ≡ Ok y)
bind_ok (Ok x) f y e = (x, refl, e)
bind_ok (Err d) f y e = absurd cc

-- a condition that did not fail
pub need_ok : {B : Type 0} (b : Bool) (d : SaveError) (f : Unit {0} → Result B SaveError) (y : B) → (need b d >>= f) ≡ Ok y → (b ≡ true) × (f tt ≡ Ok y)
need_ok true d f y e = (refl, e)
need_ok false d f y e = absurd cc

abbrev done : {A : Type 0} → A → Result A SaveError
done x = Ok x

pub ok_is : {A : Type 0} (x y : A) → done x ≡ done y → x ≡ y
ok_is x y e = cc
