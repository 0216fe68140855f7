-- What is known of addresses side by side: whole blocks that are asked in the place of their addresses (own).
use Rattle.std.specs.Prelude.{◌≡◌, ℕ, ◌+◌, ◌-◌, ◌*◌, ◌%◌, ◌<◌, min, List, slice_index_or}
use Rattle.zarray.specs.declared.width.Width.{Width}
use Rattle.zpairs.specs.Frozen.{FrozenStory}
use Rattle.zruns.specs.declared.cell.Cell.{Cell}
use Rattle.zruns.specs.Runs.{cell_at, no_cell, merged_below}

-- of the elements at so many addresses from one on
abbrev pub piece_cell : FrozenStory → Width → ℕ → ℕ → Cell
piece_cell told width from size = merged_below size (λ k. cell_at told width (from + k))

-- of those of a block of 256 addresses
abbrev pub block_cell : FrozenStory → Width → ℕ → Cell
block_cell told width block = piece_cell told width (256 * block) 256

-- a table of all blocks
abbrev pub AreBlocks : FrozenStory → Width → List Cell → Type 0
AreBlocks told width cells = (block : ℕ) → block < 256 → slice_index_or cells block no_cell ≡ block_cell told width block

-- how many addresses are asked at once from one before an end on: those up to the end of its block, and not beyond the other
abbrev pub step_length : ℕ → ℕ → ℕ
step_length at end = min (256 - at % 256) (end - at)
