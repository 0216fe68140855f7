-- What a text means: a list of ZSCII codes.
use Rattle.std.specs.Prelude.{ℕ, List, [], ◌∷◌, ◌++◌, Option, Some, None, option_map}
use Rattle.std.specs.Option.{option_and_then}
use Rattle.ztext.specs.declared.pieces.Piece.{Piece}
use Rattle.ztext.specs.declared.pieces.Piece.TheVariants.{Code, Abbreviation}
use Rattle.ztext.specs.Pieces.{pieces_of}

-- the codes of pieces none of which is an abbreviation
abbrev pub plain_codes : List Piece → Option (List ℕ)
plain_codes [] = Some []
plain_codes (Code c ∷ pieces) = option_map (λ codes. c ∷ codes) (plain_codes pieces)
plain_codes (Abbreviation n ∷ pieces) = None

-- The codes of pieces, by the Z-characters of each abbreviation's text. Such a text is decoded by itself, and there is
-- no value where it uses an abbreviation (Z 3.3.1).
abbrev pub codes_of : (ℕ → List ℕ) → List Piece → Option (List ℕ)
codes_of texts [] = Some []
codes_of texts (Code c ∷ pieces) = option_map (λ codes. c ∷ codes) (codes_of texts pieces)
codes_of texts (Abbreviation n ∷ pieces) =
    option_and_then (λ front. option_map (λ codes. front ++ codes) (codes_of texts pieces)) (plain_codes (pieces_of (texts n)))

-- The meaning of a text: its codes, from its Z-characters and those of the texts of the 96 abbreviations.
abbrev pub text_of : (ℕ → List ℕ) → List ℕ → Option (List ℕ)
text_of texts zs = codes_of texts (pieces_of zs)

-- the numbers of the abbreviations among pieces
abbrev pub abbreviations_among : List Piece → List ℕ
abbreviations_among [] = []
abbreviations_among (Code c ∷ pieces) = abbreviations_among pieces
abbreviations_among (Abbreviation n ∷ pieces) = n ∷ abbreviations_among pieces

-- the numbers of the abbreviations that Z-characters use
abbrev pub abbreviations_used : List ℕ → List ℕ
abbreviations_used zs = abbreviations_among (pieces_of zs)
