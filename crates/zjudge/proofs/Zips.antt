-- Two lists, place by place.
use Rattle.std.proofs.Common.{◌≡◌, ◌↔◌, ◌⊎◌, inl, inr, ℕ, zero, suc, ◌+◌, ◌<◌, ◌≤◌, List, [], ◌∷◌, ◌++◌, length, reverse, Option, Some, refl, sym, subst, arith}
use Rattle.std.specs.Prelude.{slice_get, slice_index}
use Rattle.std.specs.List.{AllZip}
use Rattle.std.specs.Option.{IsSomeAnd}
use Rattle.std.proofs.lemmas.Bool.{cases_lt}
use Rattle.std.proofs.lemmas.List.{reverse-append, reverse-reverse}

module _ {A : Type 0} (R : A → ℕ → Type 0) where
  -- what holds at a place
  abbrev pub At : List A → List ℕ → ℕ → Type 0
  At xs ys k = IsSomeAnd (slice_get xs k) (λ a. R a (slice_index ys k))

  pub at_here : (xs : List A) (ys : List ℕ) (k : ℕ) (a : A) → slice_get xs k ≡ Some a → At xs ys k → R a (slice_index ys k)
  at_here xs ys k a e at = subst (λ (found : Option A). IsSomeAnd found (λ b. R b (slice_index ys k))) e at

  pub at_is : (xs : List A) (ys : List ℕ) (k : ℕ) (a : A) → slice_get xs k ≡ Some a → R a (slice_index ys k) → At xs ys k
  at_is xs ys k a e r = subst (λ (found : Option A). IsSomeAnd found (λ b. R b (slice_index ys k))) (sym e) r

  -- as many of both, and each with its own
  pub zip_where : (xs : List A) (ys : List ℕ) → AllZip R xs ys ↔ ((length ys ≡ length xs) × ((k : ℕ) → k < length xs → At xs ys k))
  zip_where [] [] = (λ t. (refl, λ k below. absurd (omega (arith, below))), λ t. tt)
  zip_where [] (y ∷ ys) = (λ h. absurd h, λ both. absurd (let e = both.0 in omega (arith, e)))
  zip_where (x ∷ xs) [] = (λ h. absurd h, λ both. absurd (let e = both.0 in omega (arith, e)))
  zip_where (x ∷ xs) (y ∷ ys) =
      let rest = zip_where xs ys in (
        λ h. (let e = (rest.0 h.1).0 in omega (arith, e), at h.0 (rest.0 h.1).1),
        λ both. (both.1 0 (omega arith), rest.1 (let e = both.0 in omega (arith, e), λ k below. both.1 (suc k) (omega (arith, below)))),
      )
    where
      at : R x y → ((k : ℕ) → k < length xs → At xs ys k) → (k : ℕ) → k < length (x ∷ xs) → At (x ∷ xs) (y ∷ ys) k
      at first each zero below = first
      at first each (suc k) below = each k (omega (arith, below))

  -- of one more
  pub at_more : (xs : List A) (ys : List ℕ) (n : ℕ) → ((k : ℕ) → k < n → At xs ys k) → At xs ys n → (k : ℕ) → k < n + 1 → At xs ys k
  at_more xs ys n each next k below = by_order (cases_lt k n)
    where
      by_order : (k < n) ⊎ (n ≤ k) → At xs ys k
      by_order (inl low) = each k low
      by_order (inr high) = let same : n ≡ k = omega (arith, high, below) in subst (At xs ys) same next

  -- ---- the other way round

  zip_behind : (xs : List A) (ys : List ℕ) (x : A) (y : ℕ) → AllZip R xs ys → R x y → AllZip R (xs ++ x ∷ []) (ys ++ y ∷ [])
  zip_behind [] [] x y h r = (r, tt)
  zip_behind [] (z ∷ ys) x y h r = absurd h
  zip_behind (w ∷ xs) [] x y h r = absurd h
  zip_behind (w ∷ xs) (z ∷ ys) x y h r = (h.0, zip_behind xs ys x y h.1 r)

  pub zip_reversed : (xs : List A) (ys : List ℕ) → AllZip R xs ys → AllZip R (reverse xs) (reverse ys)
  zip_reversed [] [] h = tt
  zip_reversed [] (y ∷ ys) h = absurd h
  zip_reversed (x ∷ xs) [] h = absurd h
  zip_reversed (x ∷ xs) (y ∷ ys) h =
      let one : reverse (x ∷ xs) ≡ reverse xs ++ x ∷ [] = reverse-append (x ∷ []) xs in
      let other : reverse (y ∷ ys) ≡ reverse ys ++ y ∷ [] = reverse-append (y ∷ []) ys in
      rw (one, other) (zip_behind (reverse xs) (reverse ys) x y (zip_reversed xs ys h.1) h.0)

  pub reversed_where : (xs : List A) (ys : List ℕ) → AllZip R xs ys ↔ AllZip R (reverse xs) (reverse ys)
  reversed_where xs ys = (zip_reversed xs ys, λ h. by (zip_reversed (reverse xs) (reverse ys) h))
    where
      by : AllZip R (reverse (reverse xs)) (reverse (reverse ys)) → AllZip R xs ys
      by h = subst (λ (zs : List ℕ). AllZip R xs zs) (reverse-reverse ys) (subst (λ (ws : List A). AllZip R ws (reverse (reverse ys))) (reverse-reverse xs) h)
