-- What writes in a row leave, whole or broken off.
use Rattle.std.proofs.Common.{◌≡◌, ◌≢◌, ℕ, zero, suc, ◌-◌, List, [], ◌∷◌, ◌++◌, length, take, replicate, refl, ap, arith}
use Rattle.std.specs.Prelude.{Option, Bool, Result, Ok, Err, OnErr, OnOk, min}
use Rattle.zfault.specs.Devices.{AppendsBeginning, BreaksOff, LeavesWaiting}
use Rattle.zfault.proofs.DeviceLemmas.{BreaksOff-after, BreaksOff-append, LeavesWaiting-after}

pub whole_after : (a b c : Option (List ℕ)) (u v w : Bool) (xs ys : List ℕ) → LeavesWaiting a b u v xs → LeavesWaiting b c v w ys → LeavesWaiting a c u w (xs ++ ys)
whole_after = LeavesWaiting-after

pub begun_after : (a b c : Option (List ℕ)) (u v w : Bool) (xs ys : List ℕ) → LeavesWaiting a b u v xs → BreaksOff b c v w ys → BreaksOff a c u w (xs ++ ys)
begun_after = BreaksOff-after

pub begun_before : (a b : Option (List ℕ)) (u v : Bool) (xs ys : List ℕ) → BreaksOff a b u v xs → BreaksOff a b u v (xs ++ ys)
begun_before = BreaksOff-append

pub third_begun : (a b c d : Option (List ℕ)) (u v w x : Bool) (xs ys zs : List ℕ) → LeavesWaiting a b u v xs → LeavesWaiting b c v w ys → BreaksOff c d w x zs → BreaksOff a d u x (xs ++ ys ++ zs)
third_begun a b c d u v w x xs ys zs first second third = begun_after a c d u w x (xs ++ ys) zs (whole_after a b c u v w xs ys first second) third

-- what of it is said without what waits
pub begun_of : (a b : Option (List ℕ)) (u v : Bool) (xs : List ℕ) → BreaksOff a b u v xs → AppendsBeginning a b xs
begun_of a b u v xs broke = record { taken = broke.taken; grown = broke.grown }

-- what broke off had a byte
pub some_of : (a b : Option (List ℕ)) (u v : Bool) (xs : List ℕ) → BreaksOff a b u v xs → xs ≢ []
some_of a b u v xs broke none = omega (arith, broke.short, ap length none)

-- a colon and two zeros, without the zeros that so many places want no more
pub zeros_left : (places : ℕ) → take {A = ℕ} (3 - min places 2) (58 ∷ 48 ∷ 48 ∷ []) ≡ 58 ∷ replicate {A = ℕ} (2 - places) 48
zeros_left zero = refl
zeros_left (suc zero) = refl
zeros_left (suc (suc more)) =
    let two : min (suc (suc more)) 2 ≡ 2 = omega arith in
    let none : 2 - suc (suc more) ≡ 0 = omega arith in
    rw (two, none) refl

-- what is said of a result, where what is said follows
pub on_err : {T E : Type 0} {P : Type 0} (r : Result T E) → P → OnErr r P
on_err (Ok x) p = tt
on_err (Err x) p = p

pub ok_map : {T E : Type 0} {P Q : Type 0} (r : Result T E) → (P → Q) → OnOk r P → OnOk r Q
ok_map (Ok x) f p = f p
ok_map (Err x) f p = tt

pub err_map : {T E : Type 0} {P Q : Type 0} (r : Result T E) → (P → Q) → OnErr r P → OnErr r Q
err_map (Ok x) f p = tt
err_map (Err x) f p = f p
