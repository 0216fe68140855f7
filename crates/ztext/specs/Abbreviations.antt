-- The texts of the 96 abbreviations in memory (Z 1.2.2, 3.3).
use Rattle.std.specs.Prelude.{◌≡◌, ℕ, ◌+◌, ◌*◌, min, List, [], length, Option, Some, None, option_map, unwrap_or, nat_lt, if◌then◌else◌}
use Rattle.std.specs.Option.{option_and_then, IsSomeAnd}
use Rattle.zstory.specs.Bytes.{word_at}
use Rattle.ztext.specs.Words.{text_at, characters_in}
use Rattle.ztext.specs.Codes.{abbreviations_used}

-- The word at a place of readable memory, which ends where memory ends and no later than at 65,536 (own).
abbrev pub readable_word : List ℕ → ℕ → Option ℕ
readable_word memory at = if nat_lt (at + 1) (min (length memory) 65536) then Some (word_at memory at) else None

-- The bytes of an abbreviation's text, where they and the words that lead to them are whole in memory. The header's word
-- at 0x18 is the place of a table of 96 words, of which W means byte 2W. A sum above 65,535 doesn't wrap (own).
abbrev pub abbreviation_at : List ℕ → ℕ → Option (List ℕ)
abbreviation_at memory n =
    option_and_then (λ table. option_and_then (λ word. text_at memory (2 * word)) (readable_word memory (table + 2 * n))) (readable_word memory 0x18)

-- the Z-characters of an abbreviation's text
abbrev pub abbreviation_characters : List ℕ → ℕ → List ℕ
abbreviation_characters memory n = unwrap_or (option_map characters_in (abbreviation_at memory n)) []

-- an abbreviation is whole in memory, and uses no abbreviation
abbrev pub IsPlainAbbreviation : List ℕ → ℕ → Type 0
IsPlainAbbreviation memory n = IsSomeAnd (abbreviation_at memory n) (λ text. abbreviations_used (characters_in text) ≡ [])
