use Rattle.std.proofs.Common.{◌≡◌, ◌++◌, Some, option_copied}
use Rattle.zfront.specs.Sourced.{known_of}
use Rattle.zfront.specs.Told.{left_length, left_told}
use Rattle.zfront.proofs.words.push_words.Given as goal

-- what is left is told behind what is told so far
abbrev pub invariant-loop-left : goal.invariant-loop-left
invariant-loop-left l = l.fn.told.items ++ left_told (known_of l.info) (Some l.fn.line) ≡ l.told.items ++ left_told (known_of l.info) (option_copied l.left)

abbrev pub decreases-loop-left : goal.decreases-loop-left
decreases-loop-left l = left_length (option_copied l.left)
