use Rattle.std.proofs.Common.{ℕ, ◌+◌, ◌*◌, ◌<◌, refl, arith}
use Rattle.std.specs.Prelude.{IsTrue}
use Rattle.zdomain.specs.Domain.{In}
use Rattle.zpairs.specs.Blocks.{object_in}
use Rattle.zpairs.specs.Cells.{cell_at, passes}
use Rattle.zpairs.proofs.Each.{one_more_below}
use Rattle.zpairs.proofs.properties.Properties.some_pass.Goals as goal

pub loop-place-preserved : goal.loop-place-preserved
loop-place-preserved g c = one_more_below (λ p. 16 * c.args.block + p < c.args.self.now.story.objects → In g.V.Domain.operations c.args.objects (object_in c.args.block p) → (n : ℕ) → In g.V.Domain.operations c.args.numbers n → IsTrue (passes c.args.test n (cell_at c.args.self.now (object_in c.args.block p) n))) c.loop-place.place c.loop-place.invariant (c.if-not-place_passes.ensures.0 refl)

pub returns : goal.returns
returns g c =
    let last = c.loop-place-test.false in
    (λ passed p few. c.loop-place.invariant p (omega (arith, few, last)), λ all. refl)
