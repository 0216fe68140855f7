use Rattle.std.proofs.Common.{◌≡◌, ℕ, Option, length}
use Rattle.zquetzal.specs.declared.survey.Found.{Found}
use Rattle.zquetzal.specs.Survey.{Survey, surveyed, survey_at}
use Rattle.zquetzal.specs.View.{seen_found}
use Rattle.zquetzal.proofs.survey.surveyed.Given as goal

-- a struct that a loop changes is seen as its fields
abbrev pub found_so_far : Option ℕ × (Found × (Found × (Found × (Found × Unit {0})))) → Survey
found_so_far s = record { first = s.0; header = seen_found s.1.0; memory = seen_found s.1.1.0; compressed = seen_found s.1.1.1.0; stacks = seen_found s.1.1.1.1.0 }

abbrev pub invariant-loop-survey : goal.invariant-loop-survey
invariant-loop-survey l = surveyed (length l.rest) (found_so_far l.survey) l.rest ≡ survey_at l.bytes

abbrev pub decreases-loop-survey : goal.decreases-loop-survey
decreases-loop-survey l = length l.rest
