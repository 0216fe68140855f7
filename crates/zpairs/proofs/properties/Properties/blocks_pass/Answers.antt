use Rattle.std.proofs.Common.{ℕ, refl, arith}
use Rattle.std.specs.Prelude.{IsTrue}
use Rattle.zdomain.specs.Domain.{In}
use Rattle.zpairs.specs.Blocks.{EachInBlock}
use Rattle.zpairs.specs.Cells.{cell_at, passes}
use Rattle.zpairs.proofs.Each.{one_more_below}
use Rattle.zpairs.proofs.Regrouped.{each_object, in_block}
use Rattle.zpairs.proofs.properties.Properties.blocks_pass.Goals as goal

pub loop-block-preserved : goal.loop-block-preserved
loop-block-preserved g c = one_more_below (λ b. EachInBlock c.args.self.now b (λ x. In g.V.Domain.operations c.args.objects x → (n : ℕ) → In g.V.Domain.operations c.args.numbers n → IsTrue (passes c.args.test n (cell_at c.args.self.now x n)))) c.loop-block.block c.loop-block.invariant (c.if-not-block_passes.ensures.0 refl)

pub returns-then-not-block_passes : goal.returns-then-not-block_passes
returns-then-not-block_passes g c = (
  λ passed. absurd cc,
  λ all. c.if-not-block_passes.ensures.1 (in_block c.args.self.now (λ x. In g.V.Domain.operations c.args.objects x → (n : ℕ) → In g.V.Domain.operations c.args.numbers n → IsTrue (passes c.args.test n (cell_at c.args.self.now x n))) c.loop-block.block (λ x first last has n asked. all x n first last has asked)),
)

pub returns : goal.returns
returns g c =
    let last = c.loop-block-test.false in (
      λ passed x n first most has. each_object c.args.self.now (λ x. In g.V.Domain.operations c.args.objects x → (n : ℕ) → In g.V.Domain.operations c.args.numbers n → IsTrue (passes c.args.test n (cell_at c.args.self.now x n))) c.block_count-block-end.result c.block_count-block-end.ensures.all (λ b below. c.loop-block.invariant b (omega (arith, below, last))) x first most has n,
      λ all. refl,
    )
