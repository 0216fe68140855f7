-- What it is to be wrapped, with no word of how that is done (own).
use Rattle.std.specs.Prelude.{◌≡◌, ℕ, ◌+◌, ◌<◌, ◌≤◌, ◌⊎◌, List, [], ◌∷◌, length, ◌==◌, if◌then◌else◌}
use Rattle.zfront.specs.Wrapping.{column_behind, word_length}

-- as many bytes, each the same, but that some spaces became ends of lines
abbrev pub SameButSpaces : List ℕ → List ℕ → Type 0
SameButSpaces [] [] = Unit {0}
SameButSpaces (byte ∷ rest) (seen ∷ others) = ((seen ≡ byte) ⊎ ((byte ≡ 32) × (seen ≡ 10))) × SameButSpaces rest others
SameButSpaces _ _ = ⊥

-- the bytes of the first line, without its end
abbrev pub first_line : List ℕ → List ℕ
first_line [] = []
first_line (byte ∷ rest) = if byte == 10 then [] else byte ∷ first_line rest

-- a line that begins at this column ends within the width, or is one word
abbrev pub Fits : ℕ → ℕ → List ℕ → Type 0
Fits width column line = (column + length line ≤ width) ⊎ (word_length line ≡ length line)

-- so does each line behind an end of line
abbrev pub LaterLinesFit : ℕ → List ℕ → Type 0
LaterLinesFit width [] = Unit {0}
LaterLinesFit width (byte ∷ rest) = (byte ≡ 10 → Fits width 0 (first_line rest)) × LaterLinesFit width rest

-- a space became an end of line only where it and the word behind it would have gone past the width
abbrev pub BrokenWhereFull : ℕ → ℕ → List ℕ → List ℕ → Type 0
BrokenWhereFull width column (byte ∷ rest) (seen ∷ others) =
    (byte ≡ 32 → seen ≡ 10 → width < column + 1 + word_length rest) × BrokenWhereFull width (column_behind column seen) rest others
BrokenWhereFull width column _ _ = Unit {0}

-- the text, wrapped at a width from this column on
pub record IsWrapped (width column : ℕ) (text result : List ℕ) : Type 0 where
  pub same : SameButSpaces text result
  pub first : Fits width column (first_line result)
  pub later : LaterLinesFit width result
  pub broken : BrokenWhereFull width column text result
