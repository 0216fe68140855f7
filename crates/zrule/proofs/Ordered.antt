-- Rules in the order of their numbers.
use Rattle.std.proofs.Common.{◌≡◌, ◌⊎◌, inl, inr, ℕ, zero, suc, ◌<◌, List, [], ◌∷◌, take, Some, arith, sym, ap, subst}
use Rattle.std.specs.Prelude.{slice_get}
use Rattle.std.specs.List.{AllByRecursion}
use Rattle.std.proofs.lemmas.Option.{same_Some}

-- a rule of a list
abbrev pub IsAmong : {R : Type 0} → R → List R → Type 0
IsAmong q [] = ⊥
IsAmong q (r ∷ rs) = (q ≡ r) ⊎ IsAmong q rs

module _ {R : Type 0} (number_of : R → ℕ) where
  -- the numbers rise, from above n on
  abbrev pub Rises : ℕ → List R → Type 0
  Rises n [] = Unit {0}
  Rises n (r ∷ rs) = (n < number_of r) × Rises (number_of r) rs

  pub among_above : (n : ℕ) (rs : List R) (q : R) → Rises n rs → IsAmong q rs → n < number_of q
  among_above n [] q rises among = absurd among
  among_above n (r ∷ rs) q rises (inl same) = subst (λ (x : R). n < number_of x) (sym same) rises.0
  among_above n (r ∷ rs) q rises (inr among) = let later = among_above (number_of r) rs q rises.1 among in omega (arith, rises.0, later)

module _ {R : Type 0} (P : R → Type 0) where
  -- what holds of all holds of each
  pub among_kept : (rs : List R) (q : R) → AllByRecursion P rs → IsAmong q rs → P q
  among_kept [] q all among = absurd among
  among_kept (r ∷ rs) q all (inl same) = subst P (sym same) all.0
  among_kept (r ∷ rs) q all (inr among) = among_kept rs q all.1 among

  -- one more is kept
  pub more_kept : (rs : List R) (k : ℕ) (rule : R) → slice_get rs k ≡ Some rule → P rule → AllByRecursion P (take k rs) → AllByRecursion P (take (suc k) rs)
  more_kept [] k rule at kept all = absurd cc
  more_kept (r ∷ rs) zero rule at kept all = (subst P (same_Some rule r (sym at)) kept, tt)
  more_kept (r ∷ rs) (suc k) rule at kept all = (all.0, more_kept rs k rule at kept all.1)

  -- those with a lower number than the rule at a place come before it
  pub lower_kept : (number_of : R → ℕ) (n : ℕ) (rs : List R) (k : ℕ) (rule q : R) → Rises number_of n rs → slice_get rs k ≡ Some rule → AllByRecursion P (take k rs) → IsAmong q rs → number_of q < number_of rule → P q
  lower_kept number_of n [] k rule q rises at all among lower = absurd among
  lower_kept number_of n (r ∷ rs) zero rule q rises at all among lower =
      let below : number_of q < number_of r = subst (λ (x : R). number_of q < number_of x) (same_Some rule r (sym at)) lower in
      absurd (not_below among below)
    where
      not_below : IsAmong q (r ∷ rs) → number_of q < number_of r → ⊥
      not_below (inl same) below = let equal = ap number_of same in omega (arith, below, equal)
      not_below (inr among) below = let above = among_above number_of (number_of r) rs q rises.1 among in omega (arith, below, above)
  lower_kept number_of n (r ∷ rs) (suc k) rule q rises at all (inl same) lower = subst P (sym same) all.0
  lower_kept number_of n (r ∷ rs) (suc k) rule q rises at all (inr among) lower = lower_kept number_of (number_of r) rs k rule q rises.1 at all.1 among lower
