-- Values of the definitions, computed.
use Rattle.std.proofs.Common.{◌≡◌, ℕ, ◌-◌, List, [], ◌∷◌, ◌++◌, replicate, refl}
use Rattle.ztext.specs.Alphabets.{small_letters}
use Rattle.ztext.specs.Typed.{word_characters, word_code}
use Rattle.zdict.specs.Lookup.{lookup}
use Rattle.zdict.specs.Tokens.{Span}
use Rattle.zline.specs.Storing.{block, stored_byte, stored_text, with_blocks, with_bytes, with_line, with_text, words_of}

-- A, Z, a, z, what stands beside them, a space, a tilde, a tab, and what is no ASCII
bytes : (stored_byte 0x41 ≡ 0x61) × (stored_byte 0x5A ≡ 0x7A) × (stored_byte 0x61 ≡ 0x61) × (stored_byte 0x7A ≡ 0x7A) × (stored_byte 0x40 ≡ 0x40) × (stored_byte 0x5B ≡ 0x5B) × (stored_byte 0x20 ≡ 0x20) × (stored_byte 0x7E ≡ 0x7E) × (stored_byte 0x09 ≡ 0x3F) × (stored_byte 0x7F ≡ 0x3F) × (stored_byte 0xE9 ≡ 0x3F) × (stored_byte 0x1F ≡ 0x3F)
bytes = (refl, refl, refl, refl, refl, refl, refl, refl, refl, refl, refl, refl)

-- a size of 4 takes three characters, one of 1 none
texts : (stored_text 4 (0x4C ∷ 0x6F ∷ 0x6F ∷ 0x6B ∷ []) ≡ 0x6C ∷ 0x6F ∷ 0x6F ∷ []) × (stored_text 9 (0x4C ∷ []) ≡ 0x6C ∷ []) × (stored_text 1 (0x4C ∷ []) ≡ []) × (stored_text 0 (0x4C ∷ []) ≡ [])
texts = (refl, refl, refl, refl)

put : (with_bytes 1 (7 ∷ 8 ∷ []) (0 ∷ 1 ∷ 2 ∷ 3 ∷ []) ≡ 0 ∷ 7 ∷ 8 ∷ 3 ∷ []) × (with_text 1 (7 ∷ []) (9 ∷ 9 ∷ 9 ∷ 9 ∷ 9 ∷ []) ≡ 9 ∷ 9 ∷ 7 ∷ 0 ∷ 9 ∷ [])
put = (refl, refl)

-- a story with no entry and one separator, a full stop, whose dictionary begins at 10
story : List ℕ
story = replicate 8 0 ++ 0 ∷ 10 ∷ 1 ∷ 0x2E ∷ 4 ∷ 0 ∷ 0 ∷ []

word : ℕ → List ℕ → Span
word place letters = record { place = place; bytes = letters }

words : (words_of story 9 (0x67 ∷ 0x6F ∷ 0x2E ∷ 0x20 ∷ 0x6F ∷ []) ≡ word 0 (0x67 ∷ 0x6F ∷ []) ∷ word 2 (0x2E ∷ []) ∷ word 4 (0x6F ∷ []) ∷ []) × (words_of story 2 (0x67 ∷ 0x6F ∷ 0x2E ∷ 0x20 ∷ 0x6F ∷ []) ≡ word 0 (0x67 ∷ 0x6F ∷ []) ∷ word 2 (0x2E ∷ []) ∷ [])
unfolding story word
words = (refl, refl)

-- the first letter of a text stands at 1 of its buffer
told : block story (word 2 (0x2E ∷ [])) ≡ 0 ∷ 0 ∷ 1 ∷ 3 ∷ []
unfolding story word lookup
told = refl

-- "GO." in a text buffer of 4 at 0, and in a parse buffer of one word at 6: what lies behind both stays
both : with_line story 0 6 (0x47 ∷ 0x4F ∷ 0x2E ∷ []) (4 ∷ 9 ∷ 9 ∷ 9 ∷ 9 ∷ 9 ∷ 1 ∷ 9 ∷ 9 ∷ 9 ∷ 9 ∷ 9 ∷ 9 ∷ []) ≡ 4 ∷ 0x67 ∷ 0x6F ∷ 0x2E ∷ 0 ∷ 9 ∷ 1 ∷ 1 ∷ 0 ∷ 0 ∷ 2 ∷ 1 ∷ 9 ∷ []
unfolding with_line with_blocks story lookup
both = refl

-- "go" in buffers that are one: its block stands where the text stood, and says what the text said
covered : with_line story 0 0 (0x67 ∷ 0x6F ∷ []) (4 ∷ 9 ∷ 9 ∷ 9 ∷ 9 ∷ 9 ∷ 9 ∷ []) ≡ 4 ∷ 1 ∷ 0 ∷ 0 ∷ 2 ∷ 1 ∷ 9 ∷ []
unfolding with_line with_blocks story lookup
covered = refl

-- the same with a dictionary that has the word, in the entry at 15
known : List ℕ
known = replicate 8 0 ++ 0 ∷ 10 ∷ 1 ∷ 0x2E ∷ 4 ∷ 0 ∷ 1 ∷ 0x32 ∷ 0x85 ∷ 0x94 ∷ 0xA5 ∷ []

found : block known (word 0 (0x67 ∷ 0x6F ∷ [])) ≡ 0 ∷ 15 ∷ 2 ∷ 1 ∷ []
unfolding known word lookup word_code word_characters small_letters
found = refl

-- an empty line: no word, and the zero stands first
none : with_line story 0 5 [] (3 ∷ 9 ∷ 9 ∷ 9 ∷ 9 ∷ 1 ∷ 9 ∷ 9 ∷ []) ≡ 3 ∷ 0 ∷ 9 ∷ 9 ∷ 9 ∷ 1 ∷ 0 ∷ 9 ∷ []
unfolding with_line with_blocks story
none = refl

-- "a b": what is said of the second word stands behind what is said of the first
two : with_line story 0 6 (0x61 ∷ 0x20 ∷ 0x62 ∷ []) (5 ∷ 9 ∷ 9 ∷ 9 ∷ 9 ∷ 9 ∷ 2 ∷ 9 ∷ 9 ∷ 9 ∷ 9 ∷ 9 ∷ 9 ∷ 9 ∷ 9 ∷ 9 ∷ 9 ∷ []) ≡ 5 ∷ 0x61 ∷ 0x20 ∷ 0x62 ∷ 0 ∷ 9 ∷ 2 ∷ 2 ∷ 0 ∷ 0 ∷ 1 ∷ 1 ∷ 0 ∷ 0 ∷ 1 ∷ 3 ∷ 9 ∷ []
unfolding with_line with_blocks story lookup
two = refl

-- a dictionary at a place from 256 on, with the word "go" in the entry five bytes behind that
far : ℕ → List ℕ
far place = replicate 8 0 ++ 1 ∷ (place - 256) ∷ (replicate (place - 10) 0 ++ 1 ∷ 0x2E ∷ 4 ∷ 0 ∷ 1 ∷ 0x32 ∷ 0x85 ∷ 0x94 ∷ 0xA5 ∷ [])

far_found : (block (far 506) (word 0 (0x67 ∷ 0x6F ∷ [])) ≡ 1 ∷ 255 ∷ 2 ∷ 1 ∷ []) × (block (far 507) (word 0 (0x67 ∷ 0x6F ∷ [])) ≡ 2 ∷ 0 ∷ 2 ∷ 1 ∷ [])
unfolding far word lookup word_code word_characters small_letters
far_found = (refl, refl)
