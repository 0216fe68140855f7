use Rattle.std.proofs.Common.{◌≡◌, ℕ, ◌<◌, length}
use Rattle.std.specs.Prelude.{slice_index_or}
use Rattle.zruns.specs.Blocks.{block_cell}
use Rattle.zruns.specs.Runs.{no_cell}
use Rattle.zruns.proofs.blocks.fill_blocks.Given as goal

abbrev pub invariant-loop-block : goal.invariant-loop-block
invariant-loop-block l = record {
  long : length l.cells ≡ 256;
  made : (j : ℕ) → j < l.block → slice_index_or l.cells j no_cell ≡ block_cell (record { story = l.marked.story.now; ranges = l.marked.ranges.now }) l.width j;
}
