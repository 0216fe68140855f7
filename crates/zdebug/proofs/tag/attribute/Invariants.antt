use Rattle.std.proofs.Common.{◌≡◌, length}
use Rattle.zdebug.specs.Cutting.{parts}
use Rattle.zdebug.specs.Reading.{attribute_in}
use Rattle.zdebug.proofs.tag.attribute.Given as goal

-- it is looked for in what is left
abbrev pub invariant-loop-before : goal.invariant-loop-before
invariant-loop-before l = attribute_in l.name (parts 34 l.tag) ≡ attribute_in l.name (parts 34 l.rest)

abbrev pub decreases-loop-before : goal.decreases-loop-before
decreases-loop-before l = length l.rest
