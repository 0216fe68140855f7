-- The facts at an address stand together, and what is narrowed down to them is found so.
use Rattle.std.proofs.Common.{◌≡◌, ℕ, zero, suc, ◌+◌, ◌<◌, ◌≤◌, true, false, get_or, List, [], ◌∷◌, length, take, drop, refl, ap, arith, eqb, ltb, leb}
use Rattle.std.specs.List.{AllWithin}
use Rattle.std.specs.List.Sorted.{IsNonDecreasingBy, IsPartitionPoint}
use Rattle.std.proofs.lemmas.Bool.Decides.{nat_tests}
use Rattle.zcert.specs.declared.parts.Fact.{Fact}
use Rattle.zcert.specs.Facts.{FactsRise, facts_at}

module _ {V : Type 0} where
  abbrev place : Fact V → ℕ
  place f = f.address

  -- they rise by their addresses
  at_or_above : (floor least : ℕ) (fs : List (Fact V)) (k : ℕ) (d : Fact V) → k < length fs → FactsRise floor least fs → floor ≤ place (get_or fs k d)
  at_or_above floor least [] k d lt rise = absurd (omega arith)
  at_or_above floor least (f ∷ fs) zero d lt rise = rise.0
  at_or_above floor least (f ∷ fs) (suc k) d lt rise = let h = at_or_above f.address (f.global + 1) fs k d (omega arith) rise.2 in let l = rise.0 in omega arith

  pub facts_in_order : (floor least : ℕ) (fs : List (Fact V)) → FactsRise floor least fs → IsNonDecreasingBy place fs
  facts_in_order floor least [] rise i j d le lt = absurd (omega arith)
  facts_in_order floor least (f ∷ fs) rise zero zero d le lt = omega arith
  facts_in_order floor least (f ∷ fs) rise zero (suc j) d le lt = at_or_above f.address (f.global + 1) fs j d (omega arith) rise.2
  facts_in_order floor least (f ∷ fs) rise (suc i) zero d le lt = absurd (omega arith)
  facts_in_order floor least (f ∷ fs) rise (suc i) (suc j) d le lt = facts_in_order f.address (f.global + 1) fs rise.2 i j d (omega arith) (omega arith)

  -- what follows them does too
  pub order_behind : (fs : List (Fact V)) (n : ℕ) → IsNonDecreasingBy place fs → IsNonDecreasingBy place (drop n fs)
  order_behind fs zero up = up
  order_behind [] (suc n) up = up
  order_behind (f ∷ fs) (suc n) up = order_behind fs n (λ i j d le lt. up (suc i) (suc j) d (omega arith) (omega arith))

  module _ (address : ℕ) where
    none_behind : (fs : List (Fact V)) → AllWithin (λ (f : Fact V). leb f.address address ≡ false) fs 0 (length fs) → facts_at fs address ≡ []
    none_behind [] above = refl
    none_behind (f ∷ fs) above =
        let first : leb f.address address ≡ false = above 0 f (omega arith) (omega arith) in
        let other : eqb f.address address ≡ false = grind (arith, nat_tests) in
        rw other (none_behind fs (λ k d low high. above (suc k) d (omega arith) (omega arith)))

    -- those before the first are none of them
    pub skipped : (fs : List (Fact V)) (n : ℕ) → AllWithin (λ (f : Fact V). ltb f.address address ≡ true) fs 0 n → n ≤ length fs → facts_at fs address ≡ facts_at (drop n fs) address
    skipped fs zero below short = refl
    skipped [] (suc n) below short = refl
    skipped (f ∷ fs) (suc n) below short =
        let first : ltb f.address address ≡ true = below 0 f (omega arith) (omega arith) in
        let other : eqb f.address address ≡ false = grind (arith, nat_tests) in
        rw other (skipped fs n (λ k d low high. below (suc k) d (omega arith) (omega arith)) (omega arith))

    -- and of those that aren't below the address they are the ones that aren't above it
    pub kept : (fs : List (Fact V)) (n : ℕ) → n ≤ length fs → AllWithin (λ (f : Fact V). ltb f.address address ≡ false) fs 0 (length fs) → IsPartitionPoint (λ (f : Fact V). leb f.address address ≡ true) (λ (f : Fact V). leb f.address address ≡ false) fs n → take n fs ≡ facts_at fs address
    kept fs zero short from point = none fs point.1
      where
        none : (fs : List (Fact V)) → AllWithin (λ (f : Fact V). leb f.address address ≡ false) fs 0 (length fs) → take 0 fs ≡ facts_at fs address
        none fs above = rw (none_behind fs above) refl
    kept [] (suc n) short from point = refl
    kept (f ∷ fs) (suc n) short from point =
        let low : ltb f.address address ≡ false = from 0 f (omega arith) (omega arith) in
        let high : leb f.address address ≡ true = point.0 0 f (omega arith) (omega arith) in
        let same : eqb f.address address ≡ true = grind (arith, nat_tests) in
        let others = kept fs n (omega arith) (λ k d l h. from (suc k) d (omega arith) (omega arith)) (λ k d l h. point.0 (suc k) d (omega arith) (omega arith), λ k d l h. point.1 (suc k) d (omega arith) (omega arith)) in
        rw same (ap (λ (l : List (Fact V)). f ∷ l) others)

    -- what stands from the first of them on isn't below the address
    pub from_first : (fs : List (Fact V)) (n : ℕ) → AllWithin (λ (f : Fact V). ltb f.address address ≡ false) fs n (length fs) → AllWithin (λ (f : Fact V). ltb f.address address ≡ false) (drop n fs) 0 (length (drop n fs))
    from_first fs zero from = from
    from_first [] (suc n) from = λ k d l h. absurd (omega arith)
    from_first (f ∷ fs) (suc n) from = from_first fs n (λ k d l h. from (suc k) d (omega arith) (omega arith))
