-- Bytes and big-endian words of a memory, a list of bytes (Z 1.1, 2.1).
use Rattle.std.specs.Prelude.{ℕ, ◌+◌, ◌*◌, ◌<◌, min, List, length, slice_index}

-- the byte at a place, and 0 outside
abbrev pub byte_at : List ℕ → ℕ → ℕ
byte_at memory at = slice_index memory at

-- the word whose high byte stands at a place
abbrev pub word_at : List ℕ → ℕ → ℕ
word_at memory at = 256 * byte_at memory at + byte_at memory (at + 1)

-- where reading ends: byte addresses are words, and nothing wraps round behind 65,535 (Z 1.2.1, own)
abbrev pub readable_end : List ℕ → ℕ
readable_end memory = min (length memory) 65536

-- what memory holds are bytes
abbrev pub AreBytes : List ℕ → Type 0
AreBytes memory = (p : ℕ) → byte_at memory p < 256
