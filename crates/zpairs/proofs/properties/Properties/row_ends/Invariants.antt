use Rattle.std.proofs.Common.{◌≡◌}
use Rattle.zpairs.specs.Pairs.{ends_below}
use Rattle.zpairs.specs.Blocks.{row_end}
use Rattle.zpairs.proofs.properties.Properties.row_ends.Given as goal

abbrev pub invariant-loop-number : goal.invariant-loop-number
invariant-loop-number g l = l.ends ≡ ends_below l.number (row_end g.V.Domain.operations l.self l.question l.numbers l.block)
