-- Marks of places, a bit each (own).
use Rattle.std.specs.Prelude.{ℕ, ◌/◌, ◌%◌, Bool, ◌==◌, List, slice_index_or}
use Rattle.std.specs.Int.{bit_at}
use Rattle.std.specs.Int.Bits.{bit_and, bit_xor}

-- a place is marked: eight places are a byte, the first its lowest bit
abbrev pub is_marked : List ℕ → ℕ → Bool
is_marked marks p = bit_at (slice_index_or marks (p / 8) 0) (p % 8) == 1

-- the bits of a byte that another hasn't
abbrev pub rest_of : ℕ → ℕ → ℕ
rest_of whole byte = bit_and whole (bit_xor whole byte)
