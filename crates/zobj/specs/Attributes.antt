-- Attributes: a set of pairs of an object and a number from 0 to 31, kept in the first four bytes of an entry, of which
-- number 0 is the top bit of the first (Z 12.3.1).
use Rattle.std.specs.Prelude.{ℕ, ◌-◌, ◌/◌, ◌%◌, ◌^◌, Bool, true, false, ◌==◌, List, bit_and, bit_or}
use Rattle.std.specs.Int.{bit_at}
use Rattle.zobj.specs.Entries.{entry_byte, with_entry_byte}

-- the bit of its byte that has an attribute; bit 0 is the lowest
abbrev pub attribute_bit : ℕ → ℕ
attribute_bit attribute = 7 - attribute % 8

-- the pair is in the set (Z 15 test_attr)
abbrev pub has_attribute : List ℕ → ℕ → ℕ → Bool
has_attribute memory object attribute = bit_at (entry_byte memory object (attribute / 8)) (attribute_bit attribute) == 1

-- a byte with a bit set, or cleared
abbrev pub with_bit : Bool → ℕ → ℕ → ℕ
with_bit true bit byte = bit_or byte (2 ^ bit)
with_bit false bit byte = bit_and byte (255 - 2 ^ bit)

-- the memory with the pair put into the set, or taken out of it (Z 15 set_attr, clear_attr)
abbrev pub with_attribute : Bool → ℕ → ℕ → List ℕ → List ℕ
with_attribute on object attribute memory = with_entry_byte object (attribute / 8) (with_bit on (attribute_bit attribute) (entry_byte memory object (attribute / 8))) memory
