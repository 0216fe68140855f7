-- The dictionary: a count of separators and their codes, the length of an entry, the count of entries, which is a
-- word, and the entries, each of which begins with four bytes of encoded text (Z 13.2, 13.3).
use Rattle.std.specs.Prelude.{ℕ, ◌+◌, ◌*◌, ◌<◌, ◌≤◌, List}
use Rattle.zstory.specs.Bytes.{byte_at, word_at}
use Rattle.zstory.specs.Header.{dictionary}

abbrev pub separator_count : List ℕ → ℕ
separator_count memory = byte_at memory (dictionary memory)

abbrev pub entry_length : List ℕ → ℕ
entry_length memory = byte_at memory (dictionary memory + 1 + separator_count memory)

abbrev pub entry_count : List ℕ → ℕ
entry_count memory = word_at memory (dictionary memory + 2 + separator_count memory)

-- where an entry begins; entries are counted from 0
abbrev pub entry_place : List ℕ → ℕ → ℕ
entry_place memory entry = dictionary memory + 4 + separator_count memory + entry * entry_length memory

abbrev pub dictionary_end : List ℕ → ℕ
dictionary_end memory = entry_place memory (entry_count memory)

-- the encoded text of an entry, read as a number of four bytes
abbrev pub encoded_text : List ℕ → ℕ → ℕ
encoded_text memory entry = 65536 * word_at memory (entry_place memory entry) + word_at memory (entry_place memory entry + 2)

-- no entry's text is below that of the entry before (Z 13.5)
abbrev pub IsOrdered : List ℕ → Type 0
IsOrdered memory = (entry : ℕ) → entry + 1 < entry_count memory → encoded_text memory entry ≤ encoded_text memory (entry + 1)

-- the text of some entry is below that of the entry before
abbrev pub HasFallingEntries : List ℕ → Type 0
HasFallingEntries memory = (entry : ℕ) × (entry + 1 < entry_count memory) × (encoded_text memory (entry + 1) < encoded_text memory entry)
