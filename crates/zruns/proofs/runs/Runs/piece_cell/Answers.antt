use Rattle.std.proofs.Common.{sym, ap, ◌∙◌, arith}
use Rattle.zruns.specs.Blocks.{piece_cell}
use Rattle.zruns.proofs.Pieces.{none_yet, grown, step_small}
use Rattle.zruns.proofs.runs.Runs.piece_cell.Goals as goal

pub loop-at-init : goal.loop-at-init
loop-at-init c = let order = c.requires.order in record { above = omega arith; below = order; so_far = none_yet c.args.self.now c.args.width c.args.from }

pub loop-at-preserved : goal.loop-at-preserved
loop-at-preserved c =
    let i = c.loop-at.invariant in
    let above = i.above in
    let step = c.step_length-at.ensures in
    let small = step_small c.loop-at.at c.args.end c.step_length-at.result c.loop-at-test.true step in
    let most = small.1 in
    record {
      above = omega (arith, above);
      below = omega (arith, most);
      so_far = grown c.args.self.now c.args.width c.args.from c.loop-at.at c.step_length-at.result c.loop-at.cell c.step_cell.result c.merge-cell.result i.above i.so_far (c.step_cell.ensures ∙ ap (piece_cell c.args.self.now c.args.width c.loop-at.at) (sym step)) c.merge-cell.ensures;
    }
