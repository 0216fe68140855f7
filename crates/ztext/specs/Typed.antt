-- Words as the dictionary has them: the encoded text of what is typed (Z 3.7).
use Rattle.std.specs.Prelude.{ℕ, ◌+◌, ◌*◌, ◌/◌, ◌%◌, ◌==◌, if◌then◌else◌, List, [], ◌∷◌, ◌++◌, Option, Some, None, option_map, drop, take, map, flat_map, replicate, slice_index}
use Rattle.std.specs.Char.{to_ascii_lowercase}
use Rattle.std.specs.List.{position}
use Rattle.ztext.specs.Alphabets.{small_letters, marks}

-- The Z-character of a code in an alphabet, or in a part of one, of which the first element has this Z-character.
abbrev pub character_in : ℕ → List ℕ → ℕ → Option ℕ
character_in first alphabet code = option_map (λ place. first + place) (position (λ other. other == code) alphabet)

-- A code behind the shift to A2: a mark, of which the first has Z-character 8, or an escape with two halves, the high one first
-- (Z 3.4).
abbrev pub marked : ℕ → List ℕ
marked code = elim (character_in 8 (drop 2 marks) code) [ None ↦ 6 ∷ code / 32 ∷ code % 32 ∷ [] | Some z ↦ z ∷ [] ]

-- The Z-characters of a code: a letter of A0 alone, or any other behind a shift. A space is Z-character 0 (own).
abbrev pub characters_of_code : ℕ → List ℕ
characters_of_code code =
    if code == 32 then 0 ∷ []
    else elim (character_in 6 small_letters code) [ None ↦ 5 ∷ marked code | Some z ↦ z ∷ [] ]

-- The six Z-characters of a word: those of its bytes, of which a capital is taken for its small letter, then fives; what comes behind
-- the sixth is cut off, within an escape too.
unfoldable pub word_characters : List ℕ → List ℕ
word_characters bytes = take 6 (flat_map characters_of_code (map to_ascii_lowercase bytes) ++ replicate 6 5)

-- three of the Z-characters as a number of fifteen bits, the first highest (Z 3.2)
abbrev pub three_from : ℕ → List ℕ → ℕ
three_from n zs = 1024 * slice_index zs n + 32 * slice_index zs (n + 1) + slice_index zs (n + 2)

-- a number's two bytes, the high one first (Z 2.1)
abbrev pub bytes_of : ℕ → List ℕ
bytes_of number = number / 256 ∷ number % 256 ∷ []

-- The four bytes of a word: two words of three Z-characters each, of which the second has its top bit set, as the last of a text has.
unfoldable pub word_code : List ℕ → List ℕ
word_code bytes = bytes_of (three_from 0 (word_characters bytes)) ++ bytes_of (32768 + three_from 3 (word_characters bytes))
