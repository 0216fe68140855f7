-- Ends of many words.
use Rattle.std.proofs.Common.{◌≡◌, ◌⊎◌, inl, inr, ℕ, zero, suc, ◌+◌, ◌<◌, ◌≤◌, refl, subst, arith}
use Rattle.std.proofs.lemmas.Bool.{cases_lt}
use Rattle.zpairs.specs.declared.ends.Ends.{Ends}
use Rattle.zpairs.specs.Ends.{joined}
use Rattle.zpairs.specs.Pairs.{ends_below}

-- those of one more
pub one_more_end : (k : ℕ) (f : ℕ → Ends) (ends next all : Ends) → ends ≡ ends_below k f → next ≡ f k → all ≡ joined ends next → all ≡ ends_below (k + 1) f
unfolding ends_below
one_more_end k f ends next all is here e = let one : suc k ≡ k + 1 = omega arith in subst (λ (n : ℕ). all ≡ ends_below n f) one (rw (e, is, here) refl)

pub all_below : (k m : ℕ) (f : ℕ → Ends) (ends : Ends) → k ≡ m → ends ≡ ends_below k f → ends ≡ ends_below m f
all_below k m f ends same is = subst (λ (n : ℕ). ends ≡ ends_below n f) same is

-- a place lies between ends
pub record IsInside (ends : Ends) (place : ℕ) : Type 0 where
  pub above : ends.least ≤ place
  pub below : place ≤ ends.greatest

pub inside_first : (a b : Ends) (place : ℕ) → IsInside a place → IsInside (joined a b) place
inside_first a b place inside = let low = inside.above in let high = inside.below in record { above = omega (arith, low); below = omega (arith, high) }

pub inside_second : (a b : Ends) (place : ℕ) → IsInside b place → IsInside (joined a b) place
inside_second a b place inside = let low = inside.above in let high = inside.below in record { above = omega (arith, low); below = omega (arith, high) }

pub inside_all : (k : ℕ) (f : ℕ → Ends) (i place : ℕ) → i < k → IsInside (f i) place → IsInside (ends_below k f) place
unfolding ends_below
inside_all zero f i place few inside = absurd (omega (arith, few))
inside_all (suc k) f i place few inside = by_order (cases_lt i k) (inside_all k f i place)
  where
    by_order : (i < k) ⊎ (k ≤ i) → (i < k → IsInside (f i) place → IsInside (ends_below k f) place) → IsInside (joined (ends_below k f) (f k)) place
    by_order (inl low) before = inside_first (ends_below k f) (f k) place (before low inside)
    by_order (inr high) before = let same : i ≡ k = omega (arith, few, high) in inside_second (ends_below k f) (f k) place (subst (λ (j : ℕ). IsInside (f j) place) same inside)

-- the greatest is a place of a word
abbrev pub IsPlace : Ends → Type 0
IsPlace ends = ends.greatest < 65536

pub places_below : (f : ℕ → Ends) → ((i : ℕ) → IsPlace (f i)) → (k : ℕ) → IsPlace (ends_below k f)
unfolding ends_below
places_below f each zero = omega arith
places_below f each (suc k) = let before = places_below f each k in let next = each k in omega (arith, before, next)
