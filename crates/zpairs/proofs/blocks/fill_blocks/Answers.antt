use Rattle.std.proofs.Common.{◌/◌, ◌%◌, ◌∙◌, arith}
use Rattle.std.proofs.lemmas.List.{length-set}
use Rattle.zpairs.specs.Blocks.{block_cell}
use Rattle.zpairs.proofs.Regrouped.{one_more_cell}
use Rattle.zpairs.proofs.blocks.fill_blocks.Goals as goal

pub loop-k-preserved : goal.loop-k-preserved
loop-k-preserved c =
    let i = c.loop-k.invariant in
    let long = i.long in
    let below = c.loop-k-test.true in
    record {
      long = length-set c.loop-k.cells c.loop-k.k c.block_cell.result ∙ i.long;
      made = one_more_cell c.loop-k.cells (λ j. block_cell (record { story = c.args.marked.story.now; ranges = c.args.marked.ranges.now }) (j / 33) (j % 33)) c.loop-k.k c.block_cell.result (omega (arith, long, below)) c.block_cell.ensures i.made;
    }
