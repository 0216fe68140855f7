use Rattle.std.proofs.Common.{◌≡◌, ℕ, ◌<◌, ◌/◌, ◌%◌, length}
use Rattle.std.specs.Prelude.{slice_index_or}
use Rattle.zpairs.specs.Cells.{blank_cell}
use Rattle.zpairs.specs.Blocks.{block_cell}
use Rattle.zpairs.proofs.blocks.fill_blocks.Given as goal

abbrev pub invariant-loop-k : goal.invariant-loop-k
invariant-loop-k l = record {
  long : length l.cells ≡ 528;
  made : (j : ℕ) → j < l.k → slice_index_or l.cells j blank_cell ≡ block_cell (record { story = l.marked.story.now; ranges = l.marked.ranges.now }) (j / 33) (j % 33);
}
