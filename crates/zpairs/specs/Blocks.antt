-- What is known of all pairs, by blocks of 16 objects and one number: a table that is asked in the place of the objects (own).
use Rattle.std.specs.Prelude.{◌≡◌, ℕ, zero, suc, ◌+◌, ◌*◌, ◌/◌, ◌%◌, ◌<◌, nat_lt, if◌then◌else◌, List, slice_index_or}
use Rattle.zdomain.specs.Domain.{SetOperations}
use Rattle.zobj.specs.declared.answers.PropertyQuestion.{PropertyQuestion}
use Rattle.zpairs.specs.declared.ends.Ends.{Ends}
use Rattle.zpairs.specs.declared.cell.Cell.{Cell}
use Rattle.zpairs.specs.Frozen.{FrozenStory}
use Rattle.zpairs.specs.Ends.{no_word}
use Rattle.zpairs.specs.Cells.{blank_cell, cell_at, no_cell, merged}
use Rattle.zpairs.specs.Pairs.{ends_below, is_asked, answer_ends, object_ends}

-- what is known of all that a function says, below a number
unfoldable pub merged_below : ℕ → (ℕ → Cell) → Cell
merged_below zero f = no_cell
merged_below (suc k) f = merged (merged_below k f) (f k)

-- an object by its block and its place there, from 0: it is one of the story's
abbrev pub object_in : ℕ → ℕ → ℕ
object_in block place = 16 * block + place + 1

-- what is known of an object, less 1, and a number, if the story has it
abbrev pub object_cell : FrozenStory → ℕ → ℕ → Cell
object_cell told below number = if nat_lt below told.story.objects then cell_at told (below + 1) number else no_cell

abbrev pub place_cell : FrozenStory → ℕ → ℕ → ℕ → Cell
place_cell told block number place = object_cell told (16 * block + place) number

-- of the 16 objects of a block, as far as they are there
abbrev pub block_cell : FrozenStory → ℕ → ℕ → Cell
block_cell told block number = merged_below 16 (place_cell told block number)

-- a table of all blocks, with the same numbers
abbrev pub AreBlocks : FrozenStory → List Cell → Type 0
AreBlocks told cells = (k : ℕ) → k < 528 → slice_index_or cells k blank_cell ≡ block_cell told (k / 33) (k % 33)

-- something holds of each object of a block
abbrev pub EachInBlock : FrozenStory → ℕ → (ℕ → Type 0) → Type 0
EachInBlock told block Holds = (place : ℕ) → place < 16 → 16 * block + place < told.story.objects → Holds (object_in block place)

module _ {V : Type 0} (o : SetOperations V) (told : FrozenStory) (question : PropertyQuestion) (objects numbers : V) where
  -- the ends of what is answered by the objects of a block that may be asked
  abbrev pub place_ends : ℕ → ℕ → Ends
  place_ends block place = if nat_lt (16 * block + place) told.story.objects then object_ends o told question objects numbers (object_in block place) else no_word

  abbrev pub block_ends : ℕ → Ends
  block_ends block = ends_below 16 (place_ends block)

-- of a whole block, by its cells
abbrev pub row_end : {V : Type 0} → SetOperations V → FrozenStory → PropertyQuestion → V → ℕ → ℕ → Ends
row_end o told question numbers block n = if is_asked o numbers n then answer_ends question (block_cell told block n) else no_word
