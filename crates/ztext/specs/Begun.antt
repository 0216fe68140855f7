-- A construct that has begun, by the Z-characters read of it.
use Rattle.std.specs.Prelude.{ℕ, ◌<◌, ◌≤◌, List, [], ◌∷◌, ◌++◌}
use Rattle.ztext.specs.declared.pieces.Piece.{Piece}
use Rattle.ztext.specs.declared.pieces.Alphabet.{Alphabet}
use Rattle.ztext.specs.declared.pieces.Alphabet.TheVariants.{Small, Capital, Mark}
use Rattle.ztext.specs.declared.pieces.Begun.{Begun}
use Rattle.ztext.specs.declared.pieces.Begun.TheVariants.{Letter, Bank, Escape, EscapeHigh}
use Rattle.ztext.specs.declared.pieces.Step.{Step}
use Rattle.ztext.specs.declared.pieces.Step.TheVariants.{Completes, Begins}
use Rattle.ztext.specs.Alphabets.{small_letters, capital_letters, marks}
use Rattle.ztext.specs.Pieces.{pieces_of}

-- the alphabet's codes
abbrev pub letters_of : Alphabet → List ℕ
letters_of Small = small_letters
letters_of Capital = capital_letters
letters_of Mark = marks

-- the shift to an alphabet, where it needs one
abbrev pub shift_to : Alphabet → List ℕ
shift_to Small = []
shift_to Capital = 4 ∷ []
shift_to Mark = 5 ∷ []

-- the Z-characters of what has begun
abbrev pub characters_begun : Begun → List ℕ
characters_begun (Letter alphabet) = shift_to alphabet
characters_begun (Bank bank) = bank ∷ []
characters_begun Escape = 5 ∷ 6 ∷ []
characters_begun (EscapeHigh high) = 5 ∷ 6 ∷ high ∷ []

-- a bank is 1 to 3, and a Z-character is below 32
abbrev pub IsBegun : Begun → Type 0
IsBegun (Letter alphabet) = Unit {0}
IsBegun (Bank bank) = (1 ≤ bank) × (bank ≤ 3)
IsBegun Escape = Unit {0}
IsBegun (EscapeHigh high) = high < 32

-- the pieces from a step on, with the Z-characters that follow
abbrev pub pieces_from : Step → List ℕ → List Piece
pieces_from (Completes piece) zs = piece ∷ pieces_of zs
pieces_from (Begins begun) zs = pieces_of (characters_begun begun ++ zs)

abbrev pub IsStep : Step → Type 0
IsStep (Completes piece) = Unit {0}
IsStep (Begins begun) = IsBegun begun
