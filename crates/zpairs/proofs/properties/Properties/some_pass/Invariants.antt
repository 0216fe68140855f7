use Rattle.std.proofs.Common.{ℕ, ◌<◌, ◌+◌, ◌*◌}
use Rattle.std.specs.Prelude.{IsTrue}
use Rattle.zdomain.specs.Domain.{In}
use Rattle.zpairs.specs.Blocks.{object_in}
use Rattle.zpairs.specs.Cells.{cell_at, passes}
use Rattle.zpairs.proofs.properties.Properties.some_pass.Given as goal

abbrev pub invariant-loop-place : goal.invariant-loop-place
invariant-loop-place g l = (p : ℕ) → p < l.place → 16 * l.block + p < l.self.story.objects → In g.V.Domain.operations l.objects (object_in l.block p) → (n : ℕ) → In g.V.Domain.operations l.numbers n → IsTrue (passes l.test n (cell_at l.self (object_in l.block p) n))
