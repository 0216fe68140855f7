-- What is left to be told of a line.
use Rattle.std.specs.Prelude.{ℕ, suc, List, [], ◌∷◌, length, Option, None, Some}
use Rattle.std.specs.List.{join_with_byte}
use Rattle.zfront.specs.Sourced.{Known, words_told, parts}

-- the words behind one, if there are any
abbrev pub left_parts : Option (List ℕ) → List (List ℕ)
left_parts None = []
left_parts (Some line) = parts 32 line

-- words, told in a row
abbrev pub words_joined : Known → List (List ℕ) → List ℕ
words_joined known words = join_with_byte 32 (words_told known words)

-- those behind one
abbrev pub left_told : Known → Option (List ℕ) → List ℕ
left_told known left = words_joined known (left_parts left)

-- and how much they are
abbrev pub left_length : Option (List ℕ) → ℕ
left_length None = 0
left_length (Some line) = suc (length line)

-- the space in front of them
abbrev pub space_before : Option (List ℕ) → List ℕ
space_before None = []
space_before (Some line) = 32 ∷ []
