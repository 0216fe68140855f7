use Rattle.std.proofs.Common.{◌≡◌, length}
use Rattle.zdebug.specs.Cutting.{parts}
use Rattle.zdebug.specs.Words.{joined}
use Rattle.zdebug.proofs.text.push_parts.Given as goal

-- what is left is joined to the text so far
abbrev pub invariant-loop-part : goal.invariant-loop-part
invariant-loop-part l = joined l.fn.text.items (parts 38 l.fn.bytes) ≡ joined l.text.items (parts 38 l.rest)

abbrev pub decreases-loop-part : goal.decreases-loop-part
decreases-loop-part l = length l.rest
