use Rattle.std.proofs.Common.{◌≡◌, ◌++◌, length}
use Rattle.zfront.specs.Sourced.{known_of, object_told}
use Rattle.zfront.proofs.members.push_object.Given as goal

-- what is left is told behind what is told so far
abbrev pub invariant-loop-part : goal.invariant-loop-part
invariant-loop-part l = l.fn.told.items ++ object_told (known_of l.info) l.fn.line ≡ l.told.items ++ object_told (known_of l.info) l.rest

abbrev pub decreases-loop-part : goal.decreases-loop-part
decreases-loop-part l = length l.rest
