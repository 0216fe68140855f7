-- What is known of the steps of a reading that ended well.
use Rattle.std.proofs.Common.{◌≡◌, Bool, true, false, cond, Result, Ok, Err, Some, refl, ap, inl, inr, ◌⊎◌}
use Rattle.zcode.specs.declared.error.DecodeError.{DecodeError}
use Rattle.zcode.specs.Reading.{◌>>=◌}

-- the value of a step that did not fail
pub bind_ok : {A B : Type 0} (r : Result A DecodeError) (f : A → Result B DecodeError) (y : B) → (r >>= f) ≡ Ok y → (x : A) × (r ≡ Ok x) × (f x ≡ Ok y)
bind_ok (Ok x) f y e = (x, refl, e)
bind_ok (Err d) f y e = absurd cc

abbrev pub done : {A : Type 0} → A → Result A DecodeError
done x = Ok x

pub ok_is : {A : Type 0} (x y : A) → done x ≡ done y → x ≡ y
ok_is x y e = cc

abbrev pub done_both : {A B : Type 0} → A → B → Result (A × B) DecodeError
done_both a b = Ok (a, b)

pub both : {A B : Type 0} (a x : A) (b y : B) → done_both a b ≡ done_both x y → (a ≡ x) × (b ≡ y)
both {A} {B} a x b y e =
    let u : A × B = (a, b) in
    let v : A × B = (x, y) in
    let p = ok_is u v e in
    (ap (λ (z : A × B). z.0) p, ap (λ (z : A × B). z.1) p)

pub chosen : {A : Type 0} (b : Bool) (x y z : A) → cond b x y ≡ z → ((b ≡ true) × (x ≡ z)) ⊎ ((b ≡ false) × (y ≡ z))
chosen true x y z e = inl (refl, e)
chosen false x y z e = inr (refl, e)

pub some_is : {A : Type 0} (x y : A) → Some x ≡ Some y → x ≡ y
some_is x y e = cc
