-- Whether a fault of a place was kept.
use Rattle.std.proofs.Common.{◌≡◌, ◌↔◌, ℤ, Bool, true, false, List, refl, sym, true≢false}
use Rattle.std.specs.Prelude.{IsTrue}
use Rattle.std.specs.List.{Any}
use Rattle.std.specs.Ordering.{int_eq}
use Rattle.std.proofs.lemmas.Bool.Decides.{Decides-int_eq}
use Rattle.std.proofs.lemmas.List.Folds.{Any-from_list_any, list_any-from_Any}
use Rattle.zplayer.specs.declared.noting.Answered.{Answered}
use Rattle.zplayer.specs.Leniently.{is_noted}

alike : (b is : Bool) → (b ≡ true → IsTrue is) → (IsTrue is → b ≡ true) → b ≡ is
alike true true to from = refl
alike true false to from = absurd (true≢false (sym (to refl)))
alike false true to from = absurd (true≢false (sym (from refl)))
alike false false to from = refl

-- as it is told of the faults that were kept
pub noted_by : (place : ℤ) (firsts : List Answered) (is : Bool) → (IsTrue is ↔ Any (λ a. a.place ≡ place) firsts) → is_noted place firsts ≡ is
noted_by place firsts is told =
    let p = λ (a : Answered). int_eq a.place place in
    alike (is_noted place firsts) is
    (λ yes. let h = Any-from_list_any p firsts yes in told.1 (h.0, h.1, h.2, h.3, (Decides-int_eq h.1.place place).0 h.4))
    (λ yes. let h = told.0 yes in list_any-from_Any p firsts (h.0, h.1, h.2, h.3, (Decides-int_eq h.1.place place).1 h.4))
