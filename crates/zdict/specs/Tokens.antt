-- The tokens of a line, by the codes that the dictionary lists as separators (Z 13.2, 13.6.1).
use Rattle.std.specs.Prelude.{ℕ, ◌+◌, Bool, false, not, ◌==◌, ◌&&◌, ◌||◌, if◌then◌else◌, List, [], ◌∷◌, take, slice_range}
use Rattle.std.specs.List.{list_any, prefix_len}
use Rattle.zstory.specs.Header.{dictionary}
use Rattle.zstory.specs.Dictionary.{separator_count}

-- the codes that stand behind their count
abbrev pub separators : List ℕ → List ℕ
separators memory = slice_range memory (dictionary memory + 1) (dictionary memory + 1 + separator_count memory)

-- a part of a line: the place of its first byte, from 0, and its bytes
pub record Span : Type 0 where
  pub place : ℕ
  pub bytes : List ℕ

-- the space of ZSCII
abbrev pub is_space : ℕ → Bool
is_space byte = byte == 0x20

abbrev pub is_listed : List ℕ → ℕ → Bool
is_listed listed byte = list_any (λ separator. separator == byte) listed

-- a space divides and is no token, also where it is listed (own)
abbrev pub is_separator : List ℕ → ℕ → Bool
is_separator listed byte = not (is_space byte) && is_listed listed byte

-- whatever is neither a space nor a separator
abbrev pub is_letter : List ℕ → ℕ → Bool
is_letter listed byte = not (is_space byte) && not (is_listed listed byte)

-- whether a token begins at a byte: at each separator, and at each letter that stands behind none
abbrev pub begins : List ℕ → Bool → ℕ → Bool
begins listed behind_letter byte = is_separator listed byte || (is_letter listed byte && not behind_letter)

-- how long the token is with which a line begins: one separator, or all letters up to the first byte that is none
abbrev pub token_length : List ℕ → List ℕ → ℕ
token_length listed [] = 0
token_length listed (byte ∷ rest) = if is_separator listed byte then 1 else prefix_len (is_letter listed) (byte ∷ rest)

abbrev pub token_at : List ℕ → ℕ → List ℕ → Span
token_at listed place line = record { place = place; bytes = take (token_length listed line) line }

-- the tokens that begin in the rest of a line from a place on, by whether it stands behind a letter
abbrev pub tokens_from : List ℕ → Bool → ℕ → List ℕ → List Span
tokens_from listed behind_letter place [] = []
tokens_from listed behind_letter place (byte ∷ rest) =
    if begins listed behind_letter byte
    then token_at listed place (byte ∷ rest) ∷ tokens_from listed (is_letter listed byte) (place + 1) rest
    else tokens_from listed (is_letter listed byte) (place + 1) rest

-- the tokens of a line, in the order of their places: each separator, and each run of letters with none at either end
abbrev pub tokens : List ℕ → List ℕ → List Span
tokens listed line = tokens_from listed false 0 line
