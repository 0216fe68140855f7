-- The story that a file holds (Z 1.1, 11.1).
use Rattle.std.specs.Prelude.{◌≡◌, ℕ, ◌*◌, ◌==◌, if◌then◌else◌, List, length, take, slice_set, bit_and}
use Rattle.zstory.specs.Header.{flags, length_word}
use Rattle.zstory.specs.Objects.{IsObjectCount}
use Rattle.zstory.specs.LoadedStory.{LoadedStory}

-- the length that the header states, or that of the whole file where it states none (Z 11.1.6)
abbrev pub stated_length : List ℕ → ℕ
stated_length file = if length_word file == 0 then length file else 2 * length_word file

-- the file without the bytes behind its stated length (own)
abbrev pub stated_part : List ℕ → List ℕ
stated_part file = take (stated_length file) file

-- bits 4, 5 and 6 of Flags 1, by which an interpreter tells what it can do, are clear (Z 11.1, own)
abbrev pub with_flags_cleared : List ℕ → List ℕ
with_flags_cleared memory = slice_set memory 0x01 (bit_and (flags memory) 0b1000_1111)

abbrev pub loaded_memory : List ℕ → List ℕ
loaded_memory file = with_flags_cleared (stated_part file)

-- this is the story that a file holds
pub record IsLoaded (file : List ℕ) (story : LoadedStory) : Type 0 where
  pub memory : story.memory ≡ loaded_memory file
  pub objects : IsObjectCount story.memory story.objects
