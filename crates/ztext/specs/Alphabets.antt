-- The three alphabets of Z-characters 6 to 31, as ZSCII codes (Z 3.5.3).
use Rattle.std.specs.Prelude.{ℕ, ◌-◌, List, ◌∷◌, slice_index, codes}

-- A0
unfoldable pub small_letters : List ℕ
small_letters = codes "abcdefghijklmnopqrstuvwxyz"

-- A1
unfoldable pub capital_letters : List ℕ
capital_letters = codes "ABCDEFGHIJKLMNOPQRSTUVWXYZ"

-- A2: the place of Z-character 6, which begins an escape, then newline
unfoldable pub marks : List ℕ
marks = 0 ∷ 13 ∷ codes "0123456789.,!?_#'\"/\\-:()"

-- the code of a Z-character in an alphabet
abbrev pub letter : List ℕ → ℕ → ℕ
letter alphabet z = slice_index alphabet (z - 6)
