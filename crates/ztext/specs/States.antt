-- What has begun, as a place in the table of what prints at once.
use Rattle.std.specs.Prelude.{◌≡◌, ℕ, ◌-◌, ◌/◌, ◌%◌, ◌<◌, nat_lt, ◌==◌, if◌then◌else◌, Option, Some, None, slice_get}
use Rattle.ztext.specs.declared.pieces.Alphabet.TheVariants.{Small, Capital, Mark}
use Rattle.ztext.specs.declared.pieces.Begun.{Begun}
use Rattle.ztext.specs.declared.pieces.Begun.TheVariants.{Letter, Bank, Escape, EscapeHigh}
use Rattle.ztext.specs.Alphabets.{letter}
use Rattle.ztext.specs.Begun.{letters_of}
use Rattle.ztext.specs.Output.{output_of_code}

-- what has begun at a place: 32 places for each alphabet, each bank and an escape, and one for each high half of an escape (own)
abbrev pub begun_at : ℕ → Begun
begun_at place =
    if place == 0 then Letter Small
    else (if place == 32 then Letter Capital
    else (if place == 64 then Letter Mark
    else (if nat_lt place 192 then Bank ((place - 64) / 32)
    else (if place == 192 then Escape
    else EscapeHigh (place - 224)))))

-- something begins at a place of the table (own)
abbrev pub IsPlace : ℕ → Type 0
IsPlace place = (place < 256) × (place < 224 → place % 32 ≡ 0)

-- The byte that a Z-character prints at once after what has begun: a space, or its letter (Z 3.5.1, 3.5.3).
abbrev pub byte_at_once : Begun → ℕ → Option ℕ
byte_at_once (Letter alphabet) z =
    if z == 0 then Some 32 else (if nat_lt z 6 then None else slice_get (output_of_code (letter (letters_of alphabet) z)) 0)
byte_at_once (Bank bank) z = None
byte_at_once Escape z = None
byte_at_once (EscapeHigh high) z = None
