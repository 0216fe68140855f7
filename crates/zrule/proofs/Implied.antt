-- Facts that are judged one after another: the first, and then the others.
use Rattle.std.proofs.Common.{◌≡◌, ◌↔◌, ◌-◌, ◌≤◌, Bool, true, false, List, [], ◌∷◌, length, drop, take, take_all, Option, refl, sym, subst, arith}
use Rattle.std.specs.Prelude.{IsTrue, MatchOption, slice_get, slice_index_or}
use Rattle.zdomain.specs.Domain.{SetOperations, Within}
use Rattle.zcert.specs.declared.parts.Fact.{Fact}
use Rattle.zrule.specs.Rules.{AreImplied}

module _ {V : Type 0} (o : SetOperations V) (globals : List V) where
  abbrev pub IsImplied : Option V → Fact V → Type 0
  IsImplied known f = MatchOption known ⊥ (λ a. Within o a f.values)

  abbrev others : List (Fact V) → List (Fact V)
  others fs = take (length fs - 1) (drop 1 fs)

  first_and_others : (fs : List (Fact V)) (f : Fact V) → 1 ≤ length fs → f ≡ slice_index_or fs 0 f → AreImplied o globals fs ↔ (IsImplied (slice_get globals f.global) f × AreImplied o globals (others fs))
  first_and_others [] f more first = absurd (omega (arith, more))
  first_and_others (z ∷ fs) f more first =
      let rest : take (length (z ∷ fs) - 1) fs ≡ fs = take_all (length (z ∷ fs) - 1) fs (omega arith) in
      rw (first, rest) (λ h. h, λ h. h)

  module _ (fs : List (Fact V)) (f : Fact V) (more : 1 ≤ length fs) (first : f ≡ slice_index_or fs 0 f) (known : Option V) (b : Bool) (same : known ≡ slice_get globals f.global) (says : IsTrue b ↔ IsImplied known f) where
    here : IsTrue b ↔ IsImplied (slice_get globals f.global) f
    here = subst (λ (k : Option V). IsTrue b ↔ IsImplied k f) same says

    -- where the first is, the others decide
    pub others_decide : (d : Bool) → b ≡ true → IsTrue d ↔ AreImplied o globals (others fs) → IsTrue d ↔ AreImplied o globals fs
    others_decide d first_is told =
        let both = first_and_others fs f more first in
        (λ t. both.1 (here.0 (subst IsTrue (sym first_is) refl), told.0 t), λ h. told.1 (both.0 h).1)

    pub first_decides : b ≡ false → IsTrue b ↔ AreImplied o globals fs
    first_decides broken = (λ t. absurd (let e = broken in cc), λ h. absurd (let held = here.1 ((first_and_others fs f more first).0 h).0 in let e = broken in cc))
