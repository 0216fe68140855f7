-- What is said of many files at the end, and the exit status (own).
use Rattle.std.specs.Prelude.{ℕ, ◌+◌, max, ◌||◌, ◌==◌, nat_lt, if◌then◌else◌, List, [], ◌∷◌, ◌++◌, codes, decimal}
use Rattle.zbatch.specs.declared.tally.Tally.{Tally}
use Rattle.zbatch.specs.declared.summary.Wording.{Wording}
use Rattle.zbatch.specs.declared.summary.Wording.TheVariants.{Accepted, Found}
use Rattle.zbatch.specs.declared.work.Ended.{Ended}
use Rattle.zbatch.specs.declared.work.Ended.TheVariants.{Well, Refused, Failed, Unwritten}

-- of how many files the answers are known
abbrev pub total : Tally → ℕ
total tally = tally.well + tally.refused + tally.failed

abbrev pub word_of : Wording → List ℕ
word_of Accepted = codes "accepted"
word_of Found = codes "found"

-- how many, where there are any
abbrev pub part_text : ℕ → List ℕ → List ℕ
part_text count word = if count == 0 then [] else codes ", " ++ decimal count ++ word

-- as `3 files: 2 accepted, 1 refused`
abbrev pub summary_text : Tally → Wording → List ℕ
summary_text tally wording =
    decimal (total tally) ++ (if total tally == 1 then codes " file: " else codes " files: ") ++ decimal tally.well ++ codes " " ++ word_of wording
    ++ part_text tally.refused (codes " refused") ++ part_text tally.failed (codes " failed") ++ 10 ∷ []

-- 4 where one failed or wasn't written, else 1 where one is refused, else 0
abbrev pub status_of : Tally → ℕ
status_of tally = if tally.unwritten || nat_lt 0 tally.failed then 4 else if nat_lt 0 tally.refused then 1 else 0

-- the exit status that each way to end would have alone
abbrev pub status_of_one : Ended → ℕ
status_of_one Well = 0
status_of_one Refused = 1
status_of_one Failed = 4
status_of_one Unwritten = 4

-- the greatest
abbrev pub greatest_status : List Ended → ℕ
greatest_status [] = 0
greatest_status (e ∷ es) = max (status_of_one e) (greatest_status es)
