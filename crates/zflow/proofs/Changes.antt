-- Sets that take the place of others.
use Rattle.std.proofs.Common.{◌≡◌, ◌↔◌, ℕ, zero, suc, ◌+◌, ◌-◌, ◌<◌, ◌≤◌, List, [], ◌∷◌, length, drop, take, take_all, Option, Some, None, refl, subst, ap, arith}
use Rattle.std.specs.Prelude.{slice_get, slice_set, slice_index_or}
use Rattle.std.specs.List.{AllZip}
use Rattle.std.proofs.lemmas.Option.{same_Some}
use Rattle.zflow.specs.Lent.{put}

module _ {V : Type 0} where
  set_keeps_none : (xs : List V) (n k : ℕ) (x : V) → slice_get xs k ≡ None → slice_get (slice_set xs n x) k ≡ None
  set_keeps_none [] n k x none = none
  set_keeps_none (y ∷ xs) zero zero x none = absurd cc
  set_keeps_none (y ∷ xs) zero (suc k) x none = none
  set_keeps_none (y ∷ xs) (suc n) zero x none = none
  set_keeps_none (y ∷ xs) (suc n) (suc k) x none = set_keeps_none xs n k x none

  -- where nothing was, nothing is put
  pub put_keeps_none : (p : Option (ℕ × V)) (xs : List V) (k : ℕ) → slice_get xs k ≡ None → slice_get (put p xs) k ≡ None
  put_keeps_none None xs k none = none
  put_keeps_none (Some p) xs k none = set_keeps_none xs p.0 k p.1 none

  -- and what isn't there is as it is said to be
  pub missing : (xs : List V) (k : ℕ) (d : V) → slice_get xs k ≡ None → slice_index_or xs k d ≡ d
  missing [] k d none = refl
  missing (x ∷ xs) zero d none = absurd cc
  missing (x ∷ xs) (suc k) d none = missing xs k d none

-- two lists, from a place of the first on
module _ {A B : Type 0} (R : A → B → Type 0) where
  none_left : (xs : List A) (k : ℕ) → slice_get xs k ≡ None → drop k xs ≡ []
  none_left [] zero none = refl
  none_left [] (suc k) none = refl
  none_left (x ∷ xs) zero none = absurd cc
  none_left (x ∷ xs) (suc k) none = none_left xs k none

  next_left : (xs : List A) (k : ℕ) (x : A) → slice_get xs k ≡ Some x → drop k xs ≡ x ∷ drop (suc k) xs
  next_left [] k x some = absurd cc
  next_left (w ∷ xs) zero x some = ap (λ (v : A). v ∷ xs) (same_Some w x some)
  next_left (w ∷ xs) (suc k) x some = next_left xs k x some

  -- both end
  pub zip_ended : (xs : List A) (k : ℕ) (ys : List B) → slice_get xs k ≡ None → length ys < 1 → AllZip R (drop k xs) ys
  zip_ended xs k [] none few = rw (none_left xs k none) tt
  zip_ended xs k (y ∷ ys) none few = absurd (omega (arith, few))

  -- only one of them does
  pub zip_too_few : (xs : List A) (k : ℕ) (ys : List B) → slice_get xs k ≡ None → 1 ≤ length ys → AllZip R (drop k xs) ys → ⊥
  zip_too_few xs k [] none more zip = absurd (omega (arith, more))
  zip_too_few xs k (y ∷ ys) none more zip = subst (λ (zs : List A). AllZip R zs (y ∷ ys)) (none_left xs k none) zip

  pub zip_too_many : (xs : List A) (k : ℕ) (x : A) (ys : List B) → slice_get xs k ≡ Some x → length ys < 1 → AllZip R (drop k xs) ys → ⊥
  zip_too_many xs k x [] some few zip = subst (λ (zs : List A). AllZip R zs []) (next_left xs k x some) zip
  zip_too_many xs k x (y ∷ ys) some few zip = absurd (omega (arith, few))

  -- neither does
  pub zip_from : (xs : List A) (k : ℕ) (x : A) (ys : List B) (y : B) → slice_get xs k ≡ Some x → 1 ≤ length ys → y ≡ slice_index_or ys 0 y → AllZip R (drop k xs) ys ↔ (R x y × AllZip R (drop (k + 1) xs) (take (length ys - 1) (drop 1 ys)))
  zip_from xs k x [] y some more first = absurd (omega (arith, more))
  zip_from xs k x (z ∷ ys) y some more first =
      let next : suc k ≡ k + 1 = omega arith in
      let rest : take (length (z ∷ ys) - 1) ys ≡ ys = take_all (length (z ∷ ys) - 1) ys (omega arith) in
      rw (first, rest, ← next, next_left xs k x some) (λ w. w, λ w. w)
