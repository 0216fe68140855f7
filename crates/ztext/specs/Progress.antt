-- How the code's decoding stands to what a text prints.
use Rattle.std.specs.Prelude.{◌≡◌, ℕ, ◌+◌, ◌<◌, List, [], ◌∷◌, ◌++◌, length, Option, None, Some, option_map, Result, Ok, Err}
use Rattle.ztext.specs.declared.error.TextError.{TextError}
use Rattle.ztext.specs.declared.error.TextError.TheVariants.{Outside, NestedAbbreviation, OutOfMemory}
use Rattle.ztext.specs.declared.pieces.Piece.{Piece}
use Rattle.ztext.specs.declared.pieces.Piece.TheVariants.{Code, Abbreviation}
use Rattle.ztext.specs.declared.pieces.Begun.{Begun}
use Rattle.ztext.specs.Words.{characters_in}
use Rattle.ztext.specs.Pieces.{pieces_of}
use Rattle.ztext.specs.Abbreviations.{abbreviation_at}
use Rattle.ztext.specs.Output.{output_of_code}
use Rattle.ztext.specs.Begun.{characters_begun}

-- the error that is declared first
abbrev pub first_error : TextError → TextError → TextError
first_error Outside e = Outside
first_error NestedAbbreviation Outside = Outside
first_error NestedAbbreviation NestedAbbreviation = NestedAbbreviation
first_error NestedAbbreviation OutOfMemory = NestedAbbreviation
first_error OutOfMemory e = e

-- what two parts print, one after the other
abbrev pub joined : Result (List ℕ) TextError → Result (List ℕ) TextError → Result (List ℕ) TextError
joined (Ok front) (Ok rest) = Ok (front ++ rest)
joined (Ok front) (Err e) = Err e
joined (Err e) (Ok rest) = Err e
joined (Err e) (Err d) = Err (first_error e d)

-- what each of several parts prints, one after the other
abbrev pub all_joined : (Piece → Result (List ℕ) TextError) → List Piece → Result (List ℕ) TextError
all_joined print [] = Ok []
all_joined print (piece ∷ pieces) = joined (print piece) (all_joined print pieces)

-- what a piece prints, by what the use of each abbreviation prints
abbrev pub piece_printed : (ℕ → Result (List ℕ) TextError) → Piece → Result (List ℕ) TextError
piece_printed uses (Code c) = Ok (output_of_code c)
piece_printed uses (Abbreviation n) = uses n

-- what Z-characters print, by what the use of each abbreviation prints
abbrev pub characters_printed : (ℕ → Result (List ℕ) TextError) → List ℕ → Result (List ℕ) TextError
characters_printed uses zs = all_joined (piece_printed uses) (pieces_of zs)

-- the same from what has begun
unfoldable pub printed_from : (ℕ → Result (List ℕ) TextError) → Begun → List ℕ → Result (List ℕ) TextError
printed_from uses begun zs = characters_printed uses (characters_begun begun ++ zs)

-- within an abbreviation's text: no abbreviation may be used (Z 3.3.1)
abbrev pub nested_use : ℕ → Result (List ℕ) TextError
nested_use n = Err NestedAbbreviation

-- what a piece of an abbreviation's text prints
abbrev pub plain_output : Piece → Result (List ℕ) TextError
plain_output piece = piece_printed nested_use piece

-- what the pieces of an abbreviation's text print, where it is whole in memory
abbrev pub abbreviation_output : Option (List Piece) → Result (List ℕ) TextError
abbreviation_output None = Err Outside
abbreviation_output (Some pieces) = all_joined plain_output pieces

-- what the use of an abbreviation of memory prints
abbrev pub memory_use : List ℕ → ℕ → Result (List ℕ) TextError
memory_use memory n = abbreviation_output (option_map (λ text. pieces_of (characters_in text)) (abbreviation_at memory n))

-- what a piece of a text prints
abbrev pub piece_output : List ℕ → Piece → Result (List ℕ) TextError
piece_output memory piece = piece_printed (memory_use memory) piece

-- the error that stands where a text can't be written: its own, or else want of memory
abbrev pub error_of : Result (List ℕ) TextError → TextError
error_of (Ok out) = OutOfMemory
error_of (Err e) = e

-- the items are those before, and what was added to them
abbrev pub HasFront : List ℕ → List ℕ → Type 0
HasFront before items = (added : List ℕ) × (items ≡ before ++ added)

-- What stops has no value, or outgrows the capacity, and what stood before it is still there.
unfoldable pub IsStopped : ℕ → List ℕ → List ℕ → Result (List ℕ) TextError → Type 0
IsStopped capacity old new whole = HasFront old new × ((out : List ℕ) → whole ≡ Ok out → capacity < length old + length out)

-- From old items to new ones a part has been written, or it stops.
unfoldable pub IsWritten : ℕ → List ℕ → List ℕ → Option (Unit {0}) → Result (List ℕ) TextError → Type 0
IsWritten capacity old new (Some done) part = (out : List ℕ) × (part ≡ Ok out) × (new ≡ old ++ out)
IsWritten capacity old new None part = IsStopped capacity old new part

-- From old items to new ones the whole has been written up to what is left from the answer on, or it stops.
unfoldable pub LeadsOn : ℕ → List ℕ → List ℕ → Option Begun → Result (List ℕ) TextError → (Begun → Result (List ℕ) TextError) → Type 0
LeadsOn capacity old new (Some begun) whole left = (out : List ℕ) × (whole ≡ joined (Ok out) (left begun)) × (new ≡ old ++ out)
LeadsOn capacity old new None whole left = IsStopped capacity old new whole
