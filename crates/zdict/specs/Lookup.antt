-- The entry of the dictionary that a word has: of the entries, in the order in which they stand, the first whose encoded text,
-- with which it begins, is the word's (Z 13.2, 13.3). Two may have the same.
use Rattle.std.specs.Prelude.{ℕ, ◌+◌, ◌*◌, Bool, ◌==◌, ◌&&◌, List, map}
use Rattle.std.specs.List.{find, range_with_len}
use Rattle.std.specs.Option.{unwrap_or}
use Rattle.zstory.specs.Bytes.{byte_at, word_at}
use Rattle.zstory.specs.Dictionary.{entry_count, entry_place}

-- where the entries begin, in their order
abbrev pub entry_places : List ℕ → List ℕ
entry_places memory = map (entry_place memory) (range_with_len 0 (entry_count memory))

-- the four bytes at a place are those of the word
abbrev pub has_word : List ℕ → List ℕ → ℕ → Bool
has_word memory word place =
    ((byte_at memory place == byte_at word 0) && (byte_at memory (place + 1) == byte_at word 1))
    && ((byte_at memory (place + 2) == byte_at word 2) && (byte_at memory (place + 3) == byte_at word 3))

-- the four bytes of a word, as a number
abbrev pub text_of : List ℕ → ℕ
text_of word = 65536 * word_at word 0 + word_at word 2

-- the byte address of the first entry that has the word, and 0 where none has
unfoldable pub lookup : List ℕ → List ℕ → ℕ
lookup memory word = unwrap_or (find (has_word memory word) (entry_places memory)) 0
