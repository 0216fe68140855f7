use Rattle.std.proofs.Common.{◌+◌, ◌*◌, ◌∙◌, ap, arith, ℕ}
use Rattle.zpairs.specs.Blocks.{object_cell, place_cell}
use Rattle.zpairs.proofs.Regrouped.{all_merged, one_merged}
use Rattle.zpairs.proofs.blocks.merged_in.Goals as goal

pub loop-place-preserved : goal.loop-place-preserved
loop-place-preserved c = one_merged c.loop-place.place (place_cell (record { story = c.args.marked.story.now; ranges = c.args.marked.ranges.now }) c.args.block c.args.number) c.loop-place.cell c.object_cell.result c.merge-cell.result c.loop-place.invariant (c.object_cell.ensures ∙ ap (λ (n : ℕ). object_cell (record { story = c.args.marked.story.now; ranges = c.args.marked.ranges.now }) (n * c.args.block + c.loop-place.place) c.args.number) c.from.ensures) c.merge-cell.ensures

pub returns : goal.returns
returns c =
    let last = c.loop-place-test.false in
    let most = c.loop-place.auto.place-end in
    all_merged c.loop-place.place 16 (place_cell (record { story = c.args.marked.story.now; ranges = c.args.marked.ranges.now }) c.args.block c.args.number) c.loop-place.cell (omega (arith, last, most)) c.loop-place.invariant
