-- Values of the definitions, computed.
use Rattle.std.proofs.Common.{◌≡◌, ◌⊎◌, inl, inr, ℤ, pos, int_le, ℕ, ◌<◌, ◌≤◌, true, List, [], ◌∷◌, ◌++◌, replicate, Option, Some, None, Result, Ok, Err, refl, sym, subst, arith, if◌then◌else◌, lit≤}
use Rattle.std.specs.Prelude.{◌==◌}
use Rattle.std.proofs.lemmas.Option.{same_Some}
use Rattle.std.proofs.lemmas.Int.{ints}
use Rattle.zstory.specs.LoadedStory.{LoadedStory, globals, static_base}
use Rattle.zobj.specs.declared.tree.Link.TheVariants.{Parent, Sibling, Child}
use Rattle.zplace.specs.Bytes.{IsChanging}
use Rattle.zdomain.specs.declared.interval.Interval.{Interval}
use Rattle.zdomain.specs.Domain.{In}
use Rattle.zdomain.specs.Interval.{in_order, interval_operations}
use Rattle.zquetzal.specs.declared.error.SaveError.{SaveError}
use Rattle.zquetzal.specs.declared.error.SaveError.TheVariants as errors
use Rattle.zquetzal.specs.Saved.{Saved}
use Rattle.zstate.specs.State.{Frame, State, Setting}
use Rattle.zstate.specs.Saves.{going_on, resumed}
use Rattle.zrule.specs.Claims.{Entry, Claims}
use Rattle.zrule.specs.Described.{Described, Fits, FitsWith}
use Rattle.zjudge.specs.Frames.{AreDescribed}
use Rattle.zjudge.specs.Judging.{IsJudged}
use Rattle.zjudge.specs.Memory.{HasLinks, IsKept}
use Rattle.zjudge.specs.Parts.{IsLedTo, IsRangeKept}

-- ---- frames

-- an interval, and its ends
abbrev from : (lo hi : ℤ) → int_le lo hi ≡ true → Interval
from lo hi e = record { lo = lo; hi = hi; ordered = in_order lo hi e }

-- At 100 the main code goes on behind a call, whose result, of [0, 5], lies on a word of [9, 9]; at 200 a routine does, with a local of
-- [1, 3] and an empty stack.
abbrev in_main : Entry Interval
in_main = record { routine = 0; shape = record { locals = []; slots = from (pos 0) (pos 5) refl ∷ from (pos 9) (pos 9) refl ∷ [] } }

abbrev in_routine : Entry Interval
in_routine = record { routine = 1; shape = record { locals = from (pos 1) (pos 3) refl ∷ []; slots = [] } }

abbrev listed_at_place : ℕ → Option (Entry Interval)
listed_at_place p = if p == 100 then Some in_main else (if p == 200 then Some in_routine else None)

-- where the routine gives from 1 up to this
abbrev giving : (hi : ℤ) → int_le (pos 1) hi ≡ true → Claims Interval
giving hi e = record { ranges = []; globals = []; facts = λ p. []; entry = listed_at_place; result = λ r. from (pos 1) hi e; routine_at = λ p. None }

abbrev five : Claims Interval
five = giving (pos 5) refl

abbrev six : Claims Interval
six = giving (pos 6) refl

abbrev main_frame : Frame
main_frame = record { return_place = 0; result = 0; supplied = 0; locals = []; stack = 9 ∷ [] }

abbrev routine_frame : ℕ → Frame
routine_frame local = record { return_place = 100; result = 0; supplied = 0; locals = local ∷ []; stack = [] }

nine : In interval_operations (from (pos 9) (pos 9) refl) 9
nine = record { word = omega arith; member = (record { le = tt }, record { le = tt }) }

two : In interval_operations (from (pos 1) (pos 3) refl) 2
two = record { word = omega arith; member = (record { le = tt }, record { le = tt }) }

widened : (x : ℕ) → In interval_operations (from (pos 1) (pos 5) refl) x → In interval_operations (from (pos 0) (pos 5) refl) x
widened x inside = let above = inside.member.0 in record { word = inside.word; member = (omega (arith, ints), inside.member.1) }

-- what the routine gives is pushed on the stack of the main code, whichever value it is
described : AreDescribed interval_operations five (main_frame ∷ routine_frame 2 ∷ []) 200
described = (
  in_main,
  record { listed = refl; called = refl },
  tt,
  (
    in_routine,
    record { listed = refl; called = (omega arith, λ x inside. record { in_locals = tt; in_slots = (widened x inside, (nine, tt)) }) },
    record { in_locals = (two, tt); in_slots = tt },
  ),
)

-- there is a frame, and it goes on where something is listed
no_frame : (AreDescribed interval_operations five [] 100 → ⊥) × (AreDescribed interval_operations five (main_frame ∷ []) 101 → ⊥)
no_frame = (λ d. d, λ d. absurd (let none = d.1.listed in cc))

-- the oldest frame is one of the main code
not_called : AreDescribed interval_operations five (routine_frame 2 ∷ []) 200 → ⊥
not_called d =
    let is : d.0 ≡ in_routine = same_Some d.0 in_routine (sym d.1.listed) in
    absurd (let called : 1 ≡ 0 = subst (λ (e : Entry Interval). e.routine ≡ 0) is d.1.called in cc)

-- the newest frame's local may not be 4
local_outside : AreDescribed interval_operations five (main_frame ∷ routine_frame 4 ∷ []) 200 → ⊥
local_outside d =
    let is : d.3.0 ≡ in_routine = same_Some d.3.0 in_routine (sym d.3.1.listed) in
    let fits : Fits interval_operations five in_routine.shape (4 ∷ []) [] = subst (λ (e : Entry Interval). Fits interval_operations five e.shape (4 ∷ []) []) is d.3.2 in
    fits.in_locals.0.member.1.le

-- nor may the routine give 6, which the frame below doesn't take, though the newest frame is as before
caller_outside : AreDescribed interval_operations six (main_frame ∷ routine_frame 2 ∷ []) 200 → ⊥
caller_outside d =
    let is : d.0 ≡ in_main = same_Some d.0 in_main (sym d.1.listed) in
    let below : FitsWith interval_operations six 0 6 in_main.shape main_frame = subst (λ (e : Entry Interval). FitsWith interval_operations six 0 6 e.shape main_frame) is (d.3.1.called.1 6 (six_given d.3.0)) in
    below.in_slots.0.member.1.le
  where
    six_given : (e : Entry Interval) → In interval_operations (six.result e.routine) 6
    six_given e = record { word = omega arith; member = (record { le = tt }, record { le = tt }) }

-- ---- memory

-- 66 bytes with the globals far behind, all of which are dynamic: 64 and 65 are behind the header
small : LoadedStory
small = record { memory = replicate 12 0 ++ 3 ∷ 232 ∷ 0 ∷ 66 ∷ replicate 48 0 ++ 1 ∷ 2 ∷ []; objects = 0 }

-- with 9 in the place of a byte of the header, or of the one behind it
other_header : List ℕ
other_header = replicate 63 0 ++ 9 ∷ 1 ∷ 2 ∷ []

other_behind : List ℕ
other_behind = replicate 64 0 ++ 9 ∷ 2 ∷ []

stays : IsChanging small 64 → ⊥
unfolding small
stays (inl flags) = omega (arith, flags.1)
stays (inr (inl a_global)) = (let at : globals small ≡ 1000 = refl in omega (arith, at, a_global.0))
stays (inr (inr state)) = omega (arith, state.first, state.last)

-- the header, and what is static, don't come from the save
kept : IsKept small other_header 63 × IsKept small other_header 64 × IsKept small other_behind 65 × IsKept small [] 66
unfolding small other_header other_behind
kept = (λ above. absurd (omega (arith, above)), λ above below still. refl, λ above below still. refl, λ above below. absurd (let base : static_base small ≡ 66 = refl in omega (arith, base, below)))

unkept : IsKept small other_behind 64 → ⊥
unfolding small other_behind
unkept k = absurd (let is = k (omega arith) (omega arith) stays in cc)

-- a range has its last byte
ranges_kept : IsRangeKept small small.memory (record { first = 62; last = 65 }) × (IsRangeKept small other_behind (record { first = 62; last = 64 }) → ⊥)
ranges_kept = (record { kept = λ p inside above below still. refl }, λ r. unkept (r.kept 64 refl))

-- one object, whose table is at 64: its parent, sibling and child stand at 130, 131 and 132
one_object : LoadedStory
one_object = record { memory = replicate 10 0 ++ 0 ∷ 64 ∷ replicate 128 0; objects = 1 }

linked_to : ℕ → ℕ → ℕ → List ℕ
linked_to parent sibling child = replicate 130 0 ++ parent ∷ sibling ∷ child ∷ []

links : HasLinks one_object (linked_to 1 0 1) 1 × (HasLinks one_object (linked_to 2 0 0) 1 → ⊥) × (HasLinks one_object (linked_to 0 2 0) 1 → ⊥) × (HasLinks one_object (linked_to 0 0 2) 1 → ⊥)
unfolding one_object linked_to
links = (all, λ h. too_high (h Parent), λ h. too_high (h Sibling), λ h. too_high (h Child))
  where
    all : HasLinks one_object (linked_to 1 0 1) 1
    all Parent = lit≤ tt
    all Sibling = lit≤ tt
    all Child = lit≤ tt

    too_high : 2 ≤ 1 → ⊥
    too_high h = omega (arith, h)

-- the word at 0 leads to the text of two bytes at 6
leading : List ℕ
leading = 0 ∷ 3 ∷ 0 ∷ 0 ∷ 0 ∷ 0 ∷ 0x94 ∷ 0xA5 ∷ 0 ∷ []

led : IsLedTo leading 0 1 × IsLedTo leading 0 6 × IsLedTo leading 0 7 × (IsLedTo leading 0 2 → ⊥) × (IsLedTo leading 0 5 → ⊥) × (IsLedTo leading 0 8 → ⊥)
unfolding leading
led = (inl (omega arith, omega arith), inr (omega arith, omega arith), inr (omega arith, omega arith), apart 2 (omega arith) (inl (omega arith)), apart 5 (omega arith) (inl (omega arith)), apart 8 (omega arith) (inr (omega arith)))
  where
    apart : (p : ℕ) → 2 ≤ p → (p < 6) ⊎ (8 ≤ p) → IsLedTo leading 0 p → ⊥
    apart p above where_is (inl word) = omega (arith, above, word.1)
    apart p above (inl low) (inr text) = omega (arith, low, text.0)
    apart p above (inr high) (inr text) = omega (arith, high, text.1)

-- ---- answers

-- a save is taken only where play goes on from it in a described state, and refused for its state only where that isn't described, or has
-- more frames than there may be
module _ (m : Setting) (saved : Saved) (s : State) where
  abbrev JudgedAs : Result ℕ SaveError → Type 0
  JudgedAs answer = IsJudged interval_operations five m saved s answer

  abbrev DescribedThen : Type 0
  DescribedThen = Described interval_operations five m.limit m.story (resumed m.story saved s)

  judged : (going_on m saved s ≡ Err errors.Place → JudgedAs (Err errors.Place)) × (JudgedAs (Ok 0) → DescribedThen × (going_on m saved s ≡ Ok (resumed m.story saved s))) × (JudgedAs (Err errors.NotDescribed) → (going_on m saved s ≡ Err errors.NotDescribed) ⊎ ((going_on m saved s ≡ Ok (resumed m.story saved s)) × (DescribedThen → ⊥)))
  judged = (λ e. e, λ j. (j.1, j.0), λ j. j)

-- of no other refusal anything is said
other_refusals : (m : Setting) (saved : Saved) (s : State) → (IsJudged interval_operations five {X = ℕ} m saved s (Err errors.Frames) → ⊥) × (IsJudged interval_operations five {X = ℕ} m saved s (Err errors.OutOfMemory) → ⊥)
other_refusals m saved s = (λ j. j, λ j. j)
