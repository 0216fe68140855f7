-- The numbers of the header, which is the first 64 bytes of a memory (Z 11.1).
use Rattle.std.specs.Prelude.{ℕ, ◌/◌, ◌%◌, Bool, ◌==◌, List, slice_range}
use Rattle.zstory.specs.Bytes.{byte_at, word_at}

abbrev pub version : List ℕ → ℕ
version memory = byte_at memory 0x00

-- Flags 1
abbrev pub flags : List ℕ → ℕ
flags memory = byte_at memory 0x01

-- the status line shows a time of day and not a score: bit 1 of Flags 1 (Z 8.2.3)
abbrev pub is_time_game : List ℕ → Bool
is_time_game memory = flags memory / 2 % 2 == 1

abbrev pub release : List ℕ → ℕ
release memory = word_at memory 0x02

-- the byte address where the first instruction stands (Z 5.5)
abbrev pub first_instruction : List ℕ → ℕ
first_instruction memory = word_at memory 0x06

abbrev pub dictionary : List ℕ → ℕ
dictionary memory = word_at memory 0x08

abbrev pub object_table : List ℕ → ℕ
object_table memory = word_at memory 0x0A

-- where the 240 words of the globals begin (Z 6.2)
abbrev pub globals : List ℕ → ℕ
globals memory = word_at memory 0x0C

-- where dynamic memory ends and static memory begins (Z 1.1)
abbrev pub static_base : List ℕ → ℕ
static_base memory = word_at memory 0x0E

-- the six bytes of the serial number
abbrev pub serial : List ℕ → List ℕ
serial memory = slice_range memory 0x12 0x18

abbrev pub abbreviations : List ℕ → ℕ
abbreviations memory = word_at memory 0x18

-- half the length of the story file in bytes, or 0 where the header leaves it open (Z 11.1.6)
abbrev pub length_word : List ℕ → ℕ
length_word memory = word_at memory 0x1A

abbrev pub checksum : List ℕ → ℕ
checksum memory = word_at memory 0x1C
