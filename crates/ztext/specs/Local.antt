-- The bytes that a reading of a text goes over, the same in two memories.
use Rattle.std.specs.Prelude.{◌≡◌, ℕ, ◌+◌, ◌*◌, ◌-◌, ◌<◌, ◌≤◌, List, length, Some, unwrap_or}
use Rattle.std.specs.List.{AllByRecursion}
use Rattle.zstory.specs.Bytes.{byte_at, word_at}
use Rattle.ztext.specs.Words.{text_at, length_at, characters_in}
use Rattle.ztext.specs.Codes.{abbreviations_used}

-- the same bytes from one place up to another
abbrev pub SameBytes : List ℕ → List ℕ → ℕ → ℕ → Type 0
SameBytes memory other from to = (place : ℕ) → from ≤ place → place < to → byte_at other place ≡ byte_at memory place

-- how many bytes a reading of the text at a place goes over: all that is left of memory, where the text has no end
abbrev pub read_length : List ℕ → ℕ → ℕ
read_length memory at = unwrap_or (length_at memory at) (length memory - at)

-- the same bytes of the text at a place
abbrev pub SameWords : List ℕ → List ℕ → ℕ → Type 0
SameWords memory other at = SameBytes memory other at (at + read_length memory at)

-- of an abbreviation: the words that lead to it, and the text there
pub record SameAbbreviation (memory other : List ℕ) (n : ℕ) : Type 0 where
  pub table : word_at other 0x18 ≡ word_at memory 0x18
  pub entry : word_at other (word_at memory 0x18 + 2 * n) ≡ word_at memory (word_at memory 0x18 + 2 * n)
  pub text : SameWords memory other (2 * word_at memory (word_at memory 0x18 + 2 * n))

-- of a text: its own words, and each abbreviation that it uses
pub record SameReading (memory other : List ℕ) (at : ℕ) : Type 0 where
  pub size : length other ≡ length memory
  pub own : SameWords memory other at
  pub used : (text : List ℕ) → text_at memory at ≡ Some text → AllByRecursion (SameAbbreviation memory other) (abbreviations_used (characters_in text))
