-- Elements of arrays, which are words or bytes (Z 15 loadw, loadb, storew, storeb).
use Rattle.std.specs.Prelude.{ℕ, ◌+◌, ◌*◌, ◌/◌, ◌%◌, nat_le, if◌then◌else◌, List, Option, Some, None, slice_set}
use Rattle.zstory.specs.Bytes.{byte_at, word_at, readable_end}
use Rattle.zarray.specs.declared.width.Width.{Width}
use Rattle.zarray.specs.declared.width.Width.TheVariants.{Byte, Word}

-- how many bytes an element takes up
abbrev pub span : Width → ℕ
span Byte = 1
span Word = 2

-- Where an element is, by the address of the array and its index. Addresses are words, and sums of them are taken modulo 65,536
-- (Z 1.2.1, own)
abbrev pub place_of : Width → ℕ → ℕ → ℕ
place_of width array index = (array + span width * index) % 65536

-- the element at a place
abbrev pub value_at : Width → List ℕ → ℕ → ℕ
value_at Byte memory p = byte_at memory p
value_at Word memory p = word_at memory p

-- the same, where each of its bytes can be read: the second byte of a word at 65,535 can't
abbrev pub element_at : Width → List ℕ → ℕ → Option ℕ
element_at width memory p = if nat_le (p + span width) (readable_end memory) then Some (value_at width memory p) else None

-- the memory with a word for the element at a place, or with its low byte (Z 15 storew, storeb)
abbrev pub with_element : Width → ℕ → ℕ → List ℕ → List ℕ
with_element Byte p x memory = slice_set memory p (x % 256)
with_element Word p x memory = slice_set (slice_set memory p (x / 256)) (p + 1) (x % 256)
