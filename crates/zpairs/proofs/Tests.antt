-- What tests of cells mean.
use Rattle.std.proofs.Common.{◌≡◌, ◌↔◌, ◌⊎◌, inl, inr, ℕ, zero, suc, ◌+◌, ◌<◌, ◌≤◌, Bool, true, false, not, ◌==◌, ◌&&◌, ◌||◌, if◌then◌else◌, List, Option, Some, None, Ok, Err, refl, sym, subst, ◌∙◌, arith}
use Rattle.std.specs.Prelude.{is_some, is_ok, nat_le, option_map, IfSome, IsTrue, slice_set}
use Rattle.std.specs.Result.{IsOk}
use Rattle.std.proofs.lemmas.Bool.{cases_lt, ne_eqb}
use Rattle.std.proofs.lemmas.Bool.Decides.{eqb_tells}
use Rattle.zstory.specs.Bytes.{byte_at, word_at}
use Rattle.zobj.specs.declared.error.ObjectError.TheVariants.{AbsentProperty, PropertyTooLong}
use Rattle.zobj.specs.declared.property.Property.{Property}
use Rattle.zobj.specs.declared.answers.PropertyQuestion.TheVariants.{Value, Address, Next}
use Rattle.zobj.specs.Properties.{properties, property_of, next_in, first_number}
use Rattle.zobj.specs.Values.{IsDataByte, value_of, value_or_default, with_value, with_found, with_property}
use Rattle.zobj.specs.Answers.{answer_of, if_there, is_property_number}
use Rattle.zplace.specs.Bytes.{IsOpen}
use Rattle.zpairs.specs.declared.cell.Test.{Test}
use Rattle.zpairs.specs.declared.cell.Test.TheVariants.{Answered, Put, Open}
use Rattle.zpairs.specs.Frozen.{FrozenStory, frozen_by}
use Rattle.zpairs.specs.Fixed.{is_closed}
use Rattle.zpairs.specs.Cells.{has_none, is_short, has_open_data, cell_at, passes, absent_passes}
use Rattle.zpairs.proofs.Telling.{closed_is}
use Rattle.zpairs.proofs.Found.{found_small, none_above, followed}

-- what is asked for by a test
abbrev pub Meets : FrozenStory → Test → ℕ → ℕ → Type 0
Meets told (Answered question) x n = IsOk (answer_of question told.story.memory x n)
Meets told Put x n = IsOk (with_property x n 0 told.story.memory)
Meets told Open x n = IfSome (property_of told.story.memory x n) (λ property. (p : ℕ) → IsDataByte property p → IsOpen told.story (frozen_by told.ranges) p)

-- ---- data of one or two bytes

more : (n : ℕ) → 3 ≤ n → nat_le n 2 ≡ false
more n above = grind (arith, above)

two_tests : (n : ℕ) → 1 ≤ n → ((n == 1) || (n == 2)) ≡ nat_le n 2
two_tests n some = elim (eqb_tells n 1) [
  | inl one ↦ subst (λ (m : ℕ). ((m == 1) || (m == 2)) ≡ nat_le m 2) (sym one.1) refl
  | inr other ↦ elim (eqb_tells n 2) [
    | inl two ↦ subst (λ (m : ℕ). ((m == 1) || (m == 2)) ≡ nat_le m 2) (sym two.1) refl
    | inr neither ↦ let high = more n (above other.1 neither.1) in rw (other.0, neither.0, high) refl
  ]
]
  where
    above : (n ≡ 1 → ⊥) → (n ≡ 2 → ⊥) → 3 ≤ n
    above one two = elim (cases_lt n 3) [ inr high ↦ high | inl low ↦ elim (cases_lt n 2) [ inl less ↦ absurd (one (omega (arith, some, less))) | inr more ↦ absurd (two (omega (arith, low, more))) ] ]

has_value : (memory : List ℕ) (property : Property) → 1 ≤ property.length → is_ok (value_of memory property) ≡ nat_le property.length 2
has_value memory property some = by (property.length == 1) (property.length == 2) ∙ two_tests property.length some
  where
    by : (one two : Bool) → is_ok (if one then Ok (byte_at memory property.place) else (if two then Ok (word_at memory property.place) else Err PropertyTooLong)) ≡ (one || two)
    by true two = refl
    by false true = refl
    by false false = refl

takes_word : (memory : List ℕ) (property : Property) → 1 ≤ property.length → is_ok (with_value 0 memory property) ≡ nat_le property.length 2
takes_word memory property some = by (property.length == 1) (property.length == 2) ∙ two_tests property.length some
  where
    by : (one two : Bool) → is_ok (if one then Ok (slice_set memory property.place 0) else (if two then Ok (slice_set (slice_set memory property.place 0) (property.place + 1) 0) else Err PropertyTooLong)) ≡ (one || two)
    by true two = refl
    by false true = refl
    by false false = refl

module _ (memory : List ℕ) (x n : ℕ) where
  value_answered : is_ok (answer_of Value memory x n) ≡ (is_property_number n && is_short (property_of memory x n))
  value_answered = by (is_property_number n) (property_of memory x n) refl
    where
      by : (b : Bool) (found : Option Property) → property_of memory x n ≡ found → is_ok (if b then value_or_default memory n found else Err AbsentProperty) ≡ (b && is_short found)
      by false found e = refl
      by true None e = refl
      by true (Some property) e = has_value memory property (found_small memory x n property e).0.some

  if_there_ok : (found : Option ℕ) → is_ok (if_there found) ≡ is_some found
  if_there_ok None = refl
  if_there_ok (Some k) = refl

  next_answered : is_ok (answer_of Next memory x n) ≡ ((n == 0) || is_some (property_of memory x n))
  next_answered = if_there_ok (next_in (properties memory x) n) ∙ by (n == 0)
    where
      by : (b : Bool) → is_some (if b then Some (first_number (properties memory x)) else option_map first_number (Rattle.zobj.specs.Properties.after_number n (properties memory x))) ≡ (b || is_some (property_of memory x n))
      by true = refl
      by false = followed n (properties memory x)

  put_answered : is_ok (with_property x n 0 memory) ≡ (is_some (property_of memory x n) && is_short (property_of memory x n))
  put_answered = by (property_of memory x n) refl
    where
      by : (found : Option Property) → property_of memory x n ≡ found → is_ok (with_found 0 memory found) ≡ (is_some found && is_short found)
      by None e = refl
      by (Some property) e = takes_word memory property (found_small memory x n property e).0.some

-- ---- bytes that are open

and_both : (a b : Bool) → IsTrue (a && b) ↔ (IsTrue a × IsTrue b)
and_both true b = (λ e. (refl, e), λ e. e.1)
and_both false b = (λ e. absurd cc, λ e. absurd (isnt e.0))
  where
    isnt : IsTrue false → ⊥
    isnt e = cc

not_true : (b : Bool) → IsTrue (not b) ↔ (b ≡ false)
not_true true = (λ e. absurd cc, λ e. absurd cc)
not_true false = (λ e. refl, λ e. refl)

pub none_of : (holds : ℕ → Bool) (place k : ℕ) → IsTrue (has_none holds place k) ↔ ((p : ℕ) → place ≤ p → p < place + k → holds p ≡ false)
unfolding has_none
none_of holds place zero = (λ e p above below. absurd (omega (arith, above, below)), λ each. refl)
none_of holds place (suc k) =
    let before = none_of holds place k in
    let parts = and_both (has_none holds place k) (not (holds (place + k))) in
    let last = not_true (holds (place + k)) in (
      λ yes p above below. by_place (before.0 (parts.0 yes).0) (last.0 (parts.0 yes).1) p above below (cases_lt p (place + k)),
      λ each. parts.1 (before.1 (λ p above below. each p above (omega (arith, below))), last.1 (each (place + k) (omega arith) (omega arith))),
    )
  where
    by_place : ((p : ℕ) → place ≤ p → p < place + k → holds p ≡ false) → holds (place + k) ≡ false → (p : ℕ) → place ≤ p → p < place + suc k → (p < place + k) ⊎ (place + k ≤ p) → holds p ≡ false
    by_place each last p above below (inl low) = each p above low
    by_place each last p above below (inr high) = let same : place + k ≡ p = omega (arith, below, high) in subst (λ (q : ℕ). holds q ≡ false) same last

module _ (told : FrozenStory) where
  -- a byte that isn't marked as closed is open
  open_is : (p : ℕ) → (is_closed told p ≡ false) ↔ IsOpen told.story (frozen_by told.ranges) p
  open_is p = let is = closed_is told p in (λ e closed. opposite (is_closed told p) e (is.1 closed), λ free. not_closed (is_closed told p) (λ e. free (is.0 e)))
    where
      opposite : (b : Bool) → b ≡ false → b ≡ true → ⊥
      opposite true e f = cc
      opposite false e f = cc

      not_closed : (b : Bool) → (b ≡ true → ⊥) → b ≡ false
      not_closed true none = absurd (none refl)
      not_closed false none = refl

  open_data : (found : Option Property) → IsTrue (has_open_data (is_closed told) found) ↔ IfSome found (λ property. (p : ℕ) → IsDataByte property p → IsOpen told.story (frozen_by told.ranges) p)
  open_data None = (λ e. tt, λ e. refl)
  open_data (Some property) =
      let run = none_of (is_closed told) property.place property.length in
      (λ yes p inside. (open_is p).0 (run.0 yes p inside.0 inside.1), λ each. run.1 (λ p above below. (open_is p).1 (each p (above, below))))

-- ---- what a test of a cell means

same_test : (a b : Bool) → a ≡ b → (b ≡ true) ↔ (a ≡ true)
same_test a b e = (λ yes. e ∙ yes, λ yes. sym e ∙ yes)

pub meets : (told : FrozenStory) (test : Test) (x n : ℕ) → IsTrue (passes test n (cell_at told x n)) ↔ Meets told test x n
meets told (Answered Value) x n = same_test _ _ (value_answered told.story.memory x n)
meets told (Answered Address) x n = (λ e. refl, λ e. refl)
meets told (Answered Next) x n = same_test _ _ (next_answered told.story.memory x n)
meets told Put x n = same_test _ _ (put_answered told.story.memory x n)
meets told Open x n = open_data told (property_of told.story.memory x n)

-- ---- numbers that no property has

pub above_passes : (told : FrozenStory) (test : Test) (x n : ℕ) → 32 ≤ n → passes test n (cell_at told x n) ≡ absent_passes test
above_passes told test x n above =
    let none = none_above told.story.memory x n above in
    let no_number : is_property_number n ≡ false = no_property in
    let no_zero : (n == 0) ≡ false = ne_eqb n 0 (λ e. omega (arith, e, above)) in
    by none no_number no_zero test
  where
    no_property : is_property_number n ≡ false
    no_property = grind (arith, above)

    by : property_of told.story.memory x n ≡ None → is_property_number n ≡ false → (n == 0) ≡ false → (test : Test) → passes test n (cell_at told x n) ≡ absent_passes test
    by none no_number no_zero (Answered Value) = rw no_number refl
    by none no_number no_zero (Answered Address) = refl
    by none no_number no_zero (Answered Next) = rw (no_zero, none) refl
    by none no_number no_zero Put = rw none refl
    by none no_number no_zero Open = rw none refl
