use Rattle.std.proofs.Common.{refl, arith}
use Rattle.std.specs.Prelude.{IsTrue}
use Rattle.zdomain.specs.Domain.{In}
use Rattle.zpairs.specs.Blocks.{EachInBlock, object_in}
use Rattle.zpairs.specs.Cells.{cell_at, passes}
use Rattle.zpairs.proofs.Each.{one_more_below, all_numbers, absent_there}
use Rattle.zpairs.proofs.properties.Properties.row_passes.Goals as goal

pub loop-number-preserved : goal.loop-number-preserved
loop-number-preserved g c = one_more_below (λ n. In g.V.Domain.operations c.args.numbers n → EachInBlock c.args.self.now c.args.block (λ x. IsTrue (passes c.args.test n (cell_at c.args.self.now x n)))) c.loop-number.number c.loop-number.invariant (c.if-not-column_passes.ensures.0 refl)

pub returns : goal.returns
returns g c =
    let o = g.V.Domain.operations in
    let last = c.loop-number-test.false in
    let some = c.requires.some in (
      λ absent place few there. all_numbers o c.args.self.now c.args.test c.args.numbers (object_in c.args.block place) (λ n below has. c.loop-number.invariant n (omega (arith, below, last)) has place few there) (λ n above has. (absent_there o c.args.self.now c.args.test (object_in c.args.block place) n above).0 (c.absent_pass.ensures.0 absent n above has)),
      λ all. c.absent_pass.ensures.1 (λ n above has. (absent_there o c.args.self.now c.args.test (object_in c.args.block 0) n above).1 (all 0 (omega arith) (omega (arith, some)) n has)),
    )
