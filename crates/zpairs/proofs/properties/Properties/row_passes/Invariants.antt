use Rattle.std.proofs.Common.{ℕ, ◌<◌}
use Rattle.std.specs.Prelude.{IsTrue}
use Rattle.zdomain.specs.Domain.{In}
use Rattle.zpairs.specs.Blocks.{EachInBlock}
use Rattle.zpairs.specs.Cells.{cell_at, passes}
use Rattle.zpairs.proofs.properties.Properties.row_passes.Given as goal

abbrev pub invariant-loop-number : goal.invariant-loop-number
invariant-loop-number g l = (n : ℕ) → n < l.number → In g.V.Domain.operations l.numbers n → EachInBlock l.self l.block (λ x. IsTrue (passes l.test n (cell_at l.self x n)))
