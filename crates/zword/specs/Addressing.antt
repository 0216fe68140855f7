-- How a word names a place in memory (Z 1.2).
use Rattle.std.specs.Prelude.{ℕ, ◌*◌}
use Rattle.zword.specs.declared.addressing.Addressing.{Addressing}
use Rattle.zword.specs.declared.addressing.Addressing.TheVariants.{Byte, Packed}

-- a byte address is the place itself, and a packed one half of it (Z 1.2.1, 1.2.3)
abbrev pub place_of : Addressing → ℕ → ℕ
place_of Byte x = x
place_of Packed x = 2 * x
