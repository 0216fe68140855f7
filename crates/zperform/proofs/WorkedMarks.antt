-- Values of what is told of marked instructions, computed.
use Rattle.std.proofs.Common.{◌≡◌, ℕ, Bool, true, false, List, [], ◌∷◌, ◌++◌, None, Some, codes, refl, sym}
use Rattle.std.proofs.lemmas.List.{append-nil}
use Rattle.std.specs.Fmt.{digits}
use Rattle.std.specs.List.{filter}
use Rattle.zstory.specs.LoadedStory.{LoadedStory}
use Rattle.zdomain.specs.Interval.{interval_operations}
use Rattle.zdomain.specs.declared.interval.Interval.{Interval}
use Rattle.zcert.specs.Certificate.{Certificate, Instruction}
use Rattle.zrule.specs.declared.rule.Rule.TheVariants as rules
use Rattle.zperform.specs.Marking.{AreLinesOf, IsLineOf, is_chosen, reason_line}
use Rattle.zperform.specs.Report.{accepted_line, found_line}

-- how many instructions are marked is told, where some are
marked_lines :
    (accepted_line 0 ≡ codes "accepted" ++ 10 ∷ []) × (accepted_line 509 ≡ codes "accepted, marked: 509" ++ 10 ∷ []) × (found_line 0 ≡ codes "found" ++ 10 ∷ []) × (found_line 53 ≡ codes "found, marked: 53" ++ 10 ∷ [])
unfolding digits
marked_lines = (refl, refl, refl, refl)

-- so is why
reasons :
    (reason_line false (Some rules.Object) ≡ []) × (reason_line true None ≡ codes "marked: its rule holds" ++ 10 ∷ [])
    × (reason_line true (Some rules.Object) ≡ codes "marked: I5: an operand that has to be an object may be none, most often 0." ++ 10 ∷ [])
unfolding digits
reasons = (refl, refl, refl)

-- of two instructions, of which the second is marked, both are told of, or that one alone
plain : Instruction Interval
plain = record { address = 804; routine = 1; is_marked = false; locals = []; slots = [] }

marked : Instruction Interval
marked = record { address = 807; routine = 1; is_marked = true; locals = []; slots = [] }

chosen : (filter (is_chosen false) (plain ∷ marked ∷ []) ≡ plain ∷ marked ∷ []) × (filter (is_chosen true) (plain ∷ marked ∷ []) ≡ marked ∷ [])
unfolding plain marked
chosen = (refl, refl)

-- lines come in the order of the instructions, and of none there are none
module _ (story : LoadedStory) (c : Certificate Interval) (json : Bool) (first rest : List ℕ) where
  lines :
      AreLinesOf interval_operations story c json [] [] × (AreLinesOf interval_operations story c json [] (10 ∷ []) → ⊥)
      × (IsLineOf interval_operations story c json plain first → IsLineOf interval_operations story c json marked rest → AreLinesOf interval_operations story c json (plain ∷ marked ∷ []) (first ++ rest))
  lines = (refl, (λ e. absurd cc), λ one other. (first, rest, one, (rest, [], other, refl, sym (append-nil rest)), refl))
