use Rattle.std.proofs.Common.{◌≡◌}
use Rattle.zpairs.specs.Blocks.{merged_below, place_cell}
use Rattle.zpairs.proofs.blocks.merged_in.Given as goal

abbrev pub invariant-loop-place : goal.invariant-loop-place
invariant-loop-place l = l.cell ≡ merged_below l.place (place_cell (record { story = l.marked.story.now; ranges = l.marked.ranges.now }) l.block l.number)
