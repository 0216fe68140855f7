-- Z-characters as pieces of text, by what stands at their front (Z 3.2 to 3.6).
use Rattle.std.specs.Prelude.{ℕ, ◌+◌, ◌-◌, ◌*◌, List, [], ◌∷◌, ◌++◌, Option, Some, None, nat_lt, ◌==◌, if◌then◌else◌, zero, suc}
use Rattle.std.specs.Option.{option_to_list}
use Rattle.ztext.specs.declared.pieces.Piece.{Piece}
use Rattle.ztext.specs.declared.pieces.Piece.TheVariants.{Code, Abbreviation}
use Rattle.ztext.specs.Alphabets.{small_letters, capital_letters, marks, letter}

-- what stands at the front: its piece, if it is one, and how many Z-characters after the first belong to it
pub record Front : Type 0 where
  pub piece : Option Piece
  pub more : ℕ

-- the first Z-character alone is a piece
abbrev pub alone : Piece → Front
alone piece = record { piece = Some piece; more = 0 }

-- the first Z-character has no effect
abbrev pub dropped : Front
dropped = record { piece = None; more = 0 }

-- After 1, 2 or 3, its bank: an abbreviation (Z 3.3). With nothing after it, it's ignored (Z 3.6.1).
abbrev pub abbreviated : ℕ → List ℕ → Front
abbreviated bank [] = dropped
abbreviated bank (x ∷ zs) = record { piece = Some (Abbreviation (32 * (bank - 1) + x)); more = 1 }

-- After 4: a letter of A1 (Z 3.2.3). What is no letter uses the shift up, as a later shift does (own).
abbrev pub shifted_to_capitals : List ℕ → Front
shifted_to_capitals [] = dropped
shifted_to_capitals (z ∷ zs) = if nat_lt z 6 then dropped else record { piece = Some (Code (letter capital_letters z)); more = 1 }

-- After 5 6: a ZSCII code of ten bits, high half first (Z 3.4). Cut off, it's ignored with what there is of it (Z 3.6.1).
abbrev pub escaped : List ℕ → Front
escaped [] = record { piece = None; more = 1 }
escaped (high ∷ []) = record { piece = None; more = 2 }
escaped (high ∷ low ∷ zs) = record { piece = Some (Code (32 * high + low)); more = 3 }

-- After 5: a mark of A2, or an escape (Z 3.2.3, 3.4). What is neither uses the shift up, as a later shift does (own).
abbrev pub shifted_to_marks : List ℕ → Front
shifted_to_marks [] = dropped
shifted_to_marks (z ∷ zs) =
    if nat_lt z 6 then dropped
    else (if z == 6 then escaped zs
    else record { piece = Some (Code (letter marks z)); more = 1 })

-- what stands at the front, from its first Z-character and those after it
abbrev pub front_of : ℕ → List ℕ → Front
front_of z zs =
    if z == 0 then alone (Code 32)
    else (if nat_lt z 4 then abbreviated z zs
    else (if z == 4 then shifted_to_capitals zs
    else (if z == 5 then shifted_to_marks zs
    else alone (Code (letter small_letters z)))))

-- the pieces of Z-characters of which the first n belong to what stood before them
abbrev pub pieces_past : ℕ → List ℕ → List Piece
pieces_past n [] = []
pieces_past zero (z ∷ zs) = option_to_list (front_of z zs).piece ++ pieces_past (front_of z zs).more zs
pieces_past (suc n) (z ∷ zs) = pieces_past n zs

-- the pieces of Z-characters
abbrev pub pieces_of : List ℕ → List Piece
pieces_of zs = pieces_past 0 zs
