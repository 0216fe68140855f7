-- Marks of ranges.
use Rattle.std.proofs.Common.{◌≡◌, ◌⊎◌, inl, inr, ℕ, ◌+◌, ◌<◌, ◌≤◌, Bool, true, false, ◌&&◌, ◌||◌, List, refl, sym, subst, ap, ◌∙◌, arith}
use Rattle.std.specs.Prelude.{◌==◌, nat_le, nat_lt, max}
use Rattle.std.proofs.lemmas.Bool.{cases_lt, le-leb}
use Rattle.std.proofs.lemmas.Bool.Decides.{eqb_tells}
use Rattle.zcert.specs.declared.parts.Range.{Range}
use Rattle.zdomain.specs.Marks.{is_marked}
use Rattle.zpairs.specs.Frozen.{frozen_by}

or_true : (b : Bool) → (b || true) ≡ true
or_true true = refl
or_true false = refl

or_false : (b : Bool) → b ≡ (b || false)
or_false true = refl
or_false false = refl

-- no place yet
pub unmarked : (mark : Bool) (first place p : ℕ) → place ≡ first → mark ≡ (mark || (nat_le first p && nat_lt p place))
unmarked mark first place p same = or_false mark ∙ ap (λ (b : Bool). mark || b) (sym none)
  where
    none : (nat_le first p && nat_lt p place) ≡ false
    none = elim (cases_lt p first) [
      | inl below ↦ (let e = low below in rw e refl)
      | inr above ↦ (let e = high above in rw e (and_false (nat_le first p)))
    ]
      where
        low : p < first → nat_le first p ≡ false
        low below = grind (arith, below)

        high : first ≤ p → nat_lt p place ≡ false
        high above = grind (arith, above, same)

        and_false : (b : Bool) → (b && false) ≡ false
        and_false true = refl
        and_false false = refl

-- one more place
next_same : (p place : ℕ) → (p ≡ place → ⊥) → nat_lt p place ≡ nat_lt p (place + 1)
next_same p place other = grind (arith, other)

next_true : (place : ℕ) → nat_lt place (place + 1) ≡ true
next_true place = grind (arith)

pub mark_more : (before now after : Bool) (first place p : ℕ) → first ≤ place → after ≡ (now || (p == place)) → now ≡ (before || (nat_le first p && nat_lt p place)) → after ≡ (before || (nat_le first p && nat_lt p (place + 1)))
mark_more before now after first place p above is so_far = is ∙ by_place (eqb_tells p place)
  where
    here : (before || (nat_le first place && nat_lt place (place + 1))) ≡ true
    here = let high = le-leb first place above in let next = next_true place in rw (high, next) (or_true before)

    by_place : ((p == place) ≡ true) × (p ≡ place) ⊎ ((p == place) ≡ false) × (p ≡ place → ⊥) → (now || (p == place)) ≡ (before || (nat_le first p && nat_lt p (place + 1)))
    by_place (inl same) =
        let e = same.0 in
        rw e (or_true now) ∙ sym (subst (λ (q : ℕ). (before || (nat_le first q && nat_lt q (place + 1))) ≡ true) (sym same.1) here)
    by_place (inr other) = let e = other.0 in rw e (sym (or_false now)) ∙ so_far ∙ ap (λ (b : Bool). before || (nat_le first p && b)) (next_same p place other.1)

-- all of them
pub marked_whole : (first last place p : ℕ) → last + 1 ≤ place → place ≤ max first (last + 1) → (nat_le first p && nat_lt p place) ≡ (nat_le first p && nat_le p last)
marked_whole first last place p behind before = by_order (cases_lt p first)
  where
    low : p < first → nat_le first p ≡ false
    low below = grind (arith, below)

    same : first ≤ p → nat_lt p place ≡ nat_le p last
    same above = elim (cases_lt last p) [
      | inl beyond ↦ outside p place last (omega (arith, above, before, beyond)) beyond
      | inr within ↦ inside p place last (omega (arith, within, behind)) within
    ]
      where
        outside : (p place last : ℕ) → place ≤ p → last < p → nat_lt p place ≡ nat_le p last
        outside p place last h k = grind (arith, h, k)

        inside : (p place last : ℕ) → p < place → p ≤ last → nat_lt p place ≡ nat_le p last
        inside p place last h k = grind (arith, h, k)

    by_order : (p < first) ⊎ (first ≤ p) → (nat_le first p && nat_lt p place) ≡ (nat_le first p && nat_le p last)
    by_order (inl below) = let e = low below in rw e refl
    by_order (inr above) = ap (λ (b : Bool). nat_le first p && b) (same above)

-- before the first range
pub none_marked : (ranges : List Range) (marks : List ℕ) (p : ℕ) → is_marked marks p ≡ false → (is_marked marks p || frozen_by ranges p) ≡ frozen_by ranges p
none_marked ranges marks p none = rw none refl
