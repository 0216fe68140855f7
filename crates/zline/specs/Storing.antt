-- How a line of the player is stored, and what is said of its words (Z 13.6, 15 sread).
use Rattle.std.specs.Prelude.{ℕ, ◌+◌, ◌-◌, ◌*◌, ◌/◌, ◌%◌, ◌≤◌, ◌&&◌, nat_le, if◌then◌else◌, List, [], ◌∷◌, ◌++◌, drop, length, map, slice_set, take}
use Rattle.zstory.specs.Bytes.{byte_at}
use Rattle.ztext.specs.Typed.{word_code}
use Rattle.zdict.specs.Lookup.{lookup}
use Rattle.zdict.specs.Tokens.{Span, separators, tokens}

-- a byte of a line as it is stored: a capital as its small letter (Z 15 sread), and what is no printable ASCII as a question mark (own)
abbrev pub stored_byte : ℕ → ℕ
stored_byte byte =
    if nat_le 0x41 byte && nat_le byte 0x5A then byte + 32
    else (if nat_le 0x20 byte && nat_le byte 0x7E then byte else 0x3F)

-- what a text buffer of a size takes of a line; a zero comes behind it (Z 15 sread), and the rest is dropped (own)
abbrev pub stored_text : ℕ → List ℕ → List ℕ
stored_text size line = map stored_byte (take (size - 1) line)

-- the memory with bytes from a place on
abbrev pub with_bytes : ℕ → List ℕ → List ℕ → List ℕ
with_bytes place bytes memory = take place memory ++ (bytes ++ drop (place + length bytes) memory)

-- what is said of a word: the address of its entry, or 0, how many letters it has, and where its first is in the text buffer,
-- in which the text begins at 1 (Z 13.6.3)
abbrev pub block : List ℕ → Span → List ℕ
block story word = (lookup story (word_code word.bytes) / 256) ∷ (lookup story (word_code word.bytes) % 256) ∷ length word.bytes ∷ (word.place + 1) ∷ []

-- that of each word, from a place on
unfoldable pub with_blocks : List ℕ → ℕ → List Span → List ℕ → List ℕ
with_blocks story place [] memory = memory
with_blocks story place (word ∷ words) memory = with_blocks story (place + 4) words (with_bytes place (block story word) memory)

-- the words of a text, as many as a parse buffer takes; the rest is dropped (Z 15 sread)
abbrev pub words_of : List ℕ → ℕ → List ℕ → List Span
words_of story limit text = take limit (tokens (separators story) text)

-- the same in the parse buffer, with their count before them
abbrev pub with_words : List ℕ → ℕ → List Span → List ℕ → List ℕ
with_words story parse words memory = slice_set (with_blocks story (parse + 2) words memory) (parse + 1) (length words)

-- a text in the text buffer, and behind it a zero
abbrev pub with_text : ℕ → List ℕ → List ℕ → List ℕ
with_text text stored memory = slice_set (with_bytes (text + 1) stored memory) (text + 1 + length stored) 0

-- A line in the buffers at two places, each of which begins with a byte that says what it takes. Both bytes are read before anything is
-- stored, and the words are those of the text, whose bytes the parse buffer may cover (own).
unfoldable pub with_line : List ℕ → ℕ → ℕ → List ℕ → List ℕ → List ℕ
with_line story text parse line memory =
    with_words story parse (words_of story (byte_at memory parse) (stored_text (byte_at memory text) line)) (with_text text (stored_text (byte_at memory text) line) memory)

-- both buffers are in memory, and the text buffer has room for the zero
pub record HasBuffers (memory : List ℕ) (text parse : ℕ) : Type 0 where
  pub some : 1 ≤ byte_at memory text
  pub text_within : text + 1 + byte_at memory text ≤ length memory
  pub parse_within : parse + 2 + 4 * byte_at memory parse ≤ length memory
