use Rattle.std.proofs.Common.{ℕ, ◌<◌}
use Rattle.std.specs.Prelude.{IsTrue}
use Rattle.zdomain.specs.Domain.{In}
use Rattle.zpairs.specs.Blocks.{EachInBlock}
use Rattle.zpairs.specs.Cells.{cell_at, passes}
use Rattle.zpairs.proofs.properties.Properties.blocks_pass.Given as goal

abbrev pub invariant-loop-block : goal.invariant-loop-block
invariant-loop-block g l = (b : ℕ) → b < l.block → EachInBlock l.self b (λ x. In g.V.Domain.operations l.objects x → (n : ℕ) → In g.V.Domain.operations l.numbers n → IsTrue (passes l.test n (cell_at l.self x n)))
