-- Text as it lies in memory: words of two bytes, of which the last alone has its top bit set (Z 3.2).
use Rattle.std.specs.Prelude.{ℕ, ◌+◌, ◌*◌, ◌/◌, ◌%◌, ◌<◌, ◌≤◌, List, [], ◌∷◌, length, drop, Option, Some, None, option_map, nat_lt, if◌then◌else◌}

-- the bytes are those of one text, up to and with its end word
abbrev pub IsText : List ℕ → Type 0
IsText [] = ⊥
IsText (h ∷ []) = ⊥
IsText (h ∷ l ∷ []) = 128 ≤ h
IsText (h ∷ l ∷ b ∷ bytes) = (h < 128) × IsText (b ∷ bytes)

-- what follows the end word of the text at the front, where there is one
abbrev pub after_text : List ℕ → Option (List ℕ)
after_text [] = None
after_text (h ∷ []) = None
after_text (h ∷ l ∷ bytes) = if nat_lt h 128 then after_text bytes else Some bytes

-- the bytes of the text at the front, up to and with its end word, where it is there whole
abbrev pub front_text : List ℕ → Option (List ℕ)
front_text [] = None
front_text (h ∷ []) = None
front_text (h ∷ l ∷ bytes) = if nat_lt h 128 then option_map (λ text. h ∷ l ∷ text) (front_text bytes) else Some (h ∷ l ∷ [])

-- The bytes of the text at a place, where memory holds it whole: of an inline text, an abbreviation's or a name's.
abbrev pub text_at : List ℕ → ℕ → Option (List ℕ)
text_at memory at = front_text (drop at memory)

-- its length in bytes
abbrev pub length_at : List ℕ → ℕ → Option ℕ
length_at memory at = option_map length (text_at memory at)

-- the words of bytes, high byte first (Z 2.1)
abbrev pub words_of : List ℕ → List ℕ
words_of [] = []
words_of (h ∷ []) = []
words_of (h ∷ l ∷ bytes) = (256 * h + l) ∷ words_of bytes

-- the Z-characters of words, three of five bits each, below the top bit (Z 3.2)
abbrev pub characters_of : List ℕ → List ℕ
characters_of [] = []
characters_of (word ∷ words) = word / 1024 % 32 ∷ word / 32 % 32 ∷ word % 32 ∷ characters_of words

-- the Z-characters of a text's bytes
abbrev pub characters_in : List ℕ → List ℕ
characters_in text = characters_of (words_of text)
