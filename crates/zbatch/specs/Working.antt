-- One piece of work for each of many files, in their order (own).
use Rattle.std.specs.Prelude.{◌≡◌, ℕ, ◌+◌, Bool, true, false, List, [], ◌∷◌, count_by}
use Rattle.std.specs.List.{list_any}
use Rattle.zbatch.specs.declared.work.Ended.{Ended}
use Rattle.zbatch.specs.declared.work.Ended.TheVariants.{Well, Refused, Failed, Unwritten}
use Rattle.zbatch.specs.declared.tally.Tally.{Tally}

-- Work on the files of these names from a state can end so, one end for each file, in another state: each in turn, whatever came of those
-- before, up to one whose answer isn't written.
unfoldable pub Runs : {S : Type 0} → (S → List ℕ → Ended → S → Type 0) → List (List ℕ) → S → List Ended → S → Type 0
Runs does [] start [] end = end ≡ start
Runs does [] start (e ∷ es) end = ⊥
Runs does (n ∷ ns) start [] end = ⊥
Runs does (n ∷ ns) start (Unwritten ∷ es) end = does start n Unwritten end × (es ≡ [])
Runs {S} does (n ∷ ns) start (e ∷ es) end = (next : S) × does start n e next × Runs does ns next es end

abbrev pub is_well : Ended → Bool
is_well Well = true
is_well e = false

abbrev pub is_refused : Ended → Bool
is_refused Refused = true
is_refused e = false

abbrev pub is_failed : Ended → Bool
is_failed Failed = true
is_failed e = false

abbrev pub is_unwritten : Ended → Bool
is_unwritten Unwritten = true
is_unwritten e = false

-- how many ended in each way, and whether one wasn't written
abbrev pub tally_of : List Ended → Tally
tally_of ends = record { well = count_by is_well ends; refused = count_by is_refused ends; failed = count_by is_failed ends; unwritten = list_any is_unwritten ends }

-- for a private clause: with one more
abbrev pub counted : Tally → Ended → Tally
counted tally Well = record tally { well = tally.well + 1 }
counted tally Refused = record tally { refused = tally.refused + 1 }
counted tally Failed = record tally { failed = tally.failed + 1 }
counted tally Unwritten = record tally { unwritten = true }
