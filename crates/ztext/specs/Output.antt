-- What a text prints.
use Rattle.std.specs.Prelude.{ℕ, List, [], ◌∷◌, ◌++◌, ◌&&◌, nat_le, ◌==◌, if◌then◌else◌, Some, None, Result, Err, option_map, is_some}
use Rattle.std.specs.Option.{ok_or}
use Rattle.std.specs.List.{list_all}
use Rattle.ztext.specs.declared.error.TextError.{TextError}
use Rattle.ztext.specs.declared.error.TextError.TheVariants.{Outside, NestedAbbreviation}
use Rattle.ztext.specs.Words.{text_at, characters_in}
use Rattle.ztext.specs.Codes.{text_of, abbreviations_used}
use Rattle.ztext.specs.Abbreviations.{abbreviation_at, abbreviation_characters}

-- The bytes that a ZSCII code prints: none for 0, byte 10 for 13, itself from 32 to 126, and ? for every other code,
-- above 255 too (Z 3.8, own).
abbrev pub output_of_code : ℕ → List ℕ
output_of_code code =
    if code == 0 then [] else (if code == 13 then 10 ∷ [] else (if nat_le 32 code && nat_le code 126 then code ∷ [] else 63 ∷ []))

-- the bytes that codes print
abbrev pub output_of : List ℕ → List ℕ
output_of [] = []
output_of (code ∷ codes) = output_of_code code ++ output_of codes

-- What Z-characters print. Each abbreviation that they use has to be whole in memory, and then they have to have codes.
unfoldable pub output_of_characters : List ℕ → List ℕ → Result (List ℕ) TextError
output_of_characters memory zs =
    if list_all (λ n. is_some (abbreviation_at memory n)) (abbreviations_used zs)
    then ok_or (option_map output_of (text_of (abbreviation_characters memory) zs)) NestedAbbreviation
    else Err Outside

-- What the text at a place prints, or the first of the errors that stands: Outside where it or an abbreviation that it
-- uses isn't whole in memory, and NestedAbbreviation where it has no codes.
unfoldable pub output_at : List ℕ → ℕ → Result (List ℕ) TextError
output_at memory at = elim (text_at memory at) [ None ↦ Err Outside | Some text ↦ output_of_characters memory (characters_in text) ]
