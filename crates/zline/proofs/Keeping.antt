-- Lines stay in their buffers.
use Rattle.std.proofs.Common.{◌≡◌, ◌≢◌, ◌∙◌, inl, inr, ℕ, zero, suc, ◌+◌, ◌-◌, ◌*◌, ◌<◌, ◌≤◌, Bool, true, false, List, [], ◌∷◌, ◌++◌, length, map, take, drop, slice_set, nat_le, Option, Some, None, if◌then◌else◌, refl, ap, arith}
use Rattle.std.specs.Prelude.{◌&&◌, IfSome, unwrap_or}
use Rattle.std.specs.List.{find, range_with_len}
use Rattle.std.proofs.lemmas.Bool.{leb-true, cases_lt, and_parts}
use Rattle.std.proofs.lemmas.List.{get_or-append_right, get_or_append_left, get_or-drop, get_or-take, get_or-set_other, get_or-set_same, get_or_past, length-append, length-drop, length-map, length-set, length-take-le}
use Rattle.zstory.specs.Bytes.{AreBytes, byte_at}
use Rattle.zstory.specs.LoadedStory.{IsSound}
use Rattle.ztext.specs.Typed.{word_code}
use Rattle.zdict.specs.Lookup.{lookup, entry_places, has_word}
use Rattle.zstory.specs.Dictionary.{entry_count, entry_length, entry_place}
use Rattle.zdict.proofs.Order.{entry_inside}
use Rattle.zdict.proofs.Parts.{parts_of_line}
use Rattle.zdict.specs.Parts.{AreParts}
use Rattle.zdict.specs.Tokens.{Span, separators, tokens}
use Rattle.zline.specs.Kept.{IsBeside, LinesStay}
use Rattle.zline.specs.Storing.{block, stored_byte, stored_text, with_blocks, with_bytes, with_line, with_text, with_words, words_of}

-- ---- a run of bytes is changed

record Changes (from count : ℕ) (before after : List ℕ) : Type 0 where
  size : length after ≡ length before
  same : (place : ℕ) → IsBeside from count place → byte_at after place ≡ byte_at before place

changes_none : (from count : ℕ) (memory : List ℕ) → Changes from count memory memory
changes_none from count memory = record { size = refl; same = λ place h. refl }

one_then : (from count : ℕ) (a b c : List ℕ) → Changes from count a b → Changes from count b c → Changes from count a c
one_then from count a b c one two = record { size = two.size ∙ one.size; same = λ place h. two.same place h ∙ one.same place h }

beside : (from count inner few place : ℕ) → from ≤ inner → inner + few ≤ from + count → IsBeside from count place → IsBeside inner few place
beside from count inner few place low high (inl h) = inl (omega (arith, h, low))
beside from count inner few place low high (inr h) = inr (omega (arith, h, high))

wider : (from count inner few : ℕ) (a b : List ℕ) → from ≤ inner → inner + few ≤ from + count → Changes inner few a b → Changes from count a b
wider from count inner few a b low high c = record { size = c.size; same = λ place h. c.same place (beside from count inner few place low high h) }

set_changes : (memory : List ℕ) (at byte : ℕ) → Changes at 1 memory (slice_set memory at byte)
set_changes memory at byte = record { size = length-set memory at byte; same = λ place h. get_or-set_other memory at place byte 0 (apart place h) }
  where
    apart : (place : ℕ) → IsBeside at 1 place → place ≢ at
    apart place (inl h) e = omega (arith, h, e)
    apart place (inr h) e = omega (arith, h, e)

pub bytes_size : (place : ℕ) (bytes memory : List ℕ) → place + length bytes ≤ length memory → length (with_bytes place bytes memory) ≡ length memory
bytes_size place bytes memory fits =
    let front : length (take place memory) ≡ place = length-take-le place memory (omega (arith, fits)) in
    let all = length-append (take place memory) (bytes ++ drop (place + length bytes) memory) in
    let behind = length-append bytes (drop (place + length bytes) memory) in
    let rest = length-drop (place + length bytes) memory in
    omega (arith, all, behind, rest, front, fits)

pub before_bytes : (place : ℕ) (bytes memory : List ℕ) → place + length bytes ≤ length memory → (q : ℕ) → q < place → byte_at (with_bytes place bytes memory) q ≡ byte_at memory q
before_bytes place bytes memory fits q low =
    let front : length (take place memory) ≡ place = length-take-le place memory (omega (arith, fits)) in
    get_or_append_left (take place memory) (bytes ++ drop (place + length bytes) memory) 0 q (omega (arith, front, low)) ∙ get_or-take place memory q 0 low

-- a byte from the place on is one of what follows the front
pub from_bytes : (place : ℕ) (bytes memory : List ℕ) → place + length bytes ≤ length memory → (q : ℕ) → place ≤ q → byte_at (with_bytes place bytes memory) q ≡ byte_at (bytes ++ drop (place + length bytes) memory) (q - place)
from_bytes place bytes memory fits q high =
    let front : length (take place memory) ≡ place = length-take-le place memory (omega (arith, fits)) in
    get_or-append_right (take place memory) (bytes ++ drop (place + length bytes) memory) place q 0 front high

pub behind_bytes : (place : ℕ) (bytes memory : List ℕ) → place + length bytes ≤ length memory → (q : ℕ) → place + length bytes ≤ q → byte_at (with_bytes place bytes memory) q ≡ byte_at memory q
behind_bytes place bytes memory fits q high =
    let there : place + length bytes + (q - place - length bytes) ≡ q = omega (arith, high) in
    from_bytes place bytes memory fits q (omega (arith, high))
    ∙ get_or-append_right bytes (drop (place + length bytes) memory) (length bytes) (q - place) 0 refl (omega (arith, high))
    ∙ get_or-drop (place + length bytes) memory (q - place - length bytes) 0
    ∙ ap (byte_at memory) there

bytes_change : (place : ℕ) (bytes memory : List ℕ) → place + length bytes ≤ length memory → Changes place (length bytes) memory (with_bytes place bytes memory)
bytes_change place bytes memory fits = record { size = bytes_size place bytes memory fits; same = same }
  where
    same : (q : ℕ) → IsBeside place (length bytes) q → byte_at (with_bytes place bytes memory) q ≡ byte_at memory q
    same q (inl low) = before_bytes place bytes memory fits q low
    same q (inr high) = behind_bytes place bytes memory fits q high

blocks_change : (story : List ℕ) (place : ℕ) (words : List Span) (memory : List ℕ) → place + 4 * length words ≤ length memory → Changes place (4 * length words) memory (with_blocks story place words memory)
unfolding with_blocks
blocks_change story place [] memory fits = changes_none place 0 memory
blocks_change story place (word ∷ words) memory fits =
    let first = bytes_change place (block story word) memory (omega (arith, fits)) in
    let rest = blocks_change story (place + 4) words (with_bytes place (block story word) memory) (omega (arith, fits, first.size)) in
    one_then place (4 * length (word ∷ words)) memory (with_bytes place (block story word) memory) _ (wider place (4 * length (word ∷ words)) place 4 memory _ (omega arith) (omega arith) first) (wider place (4 * length (word ∷ words)) (place + 4) (4 * length words) _ _ (omega arith) (omega arith) rest)

words_change : (story : List ℕ) (parse limit : ℕ) (words : List Span) (memory : List ℕ) → length words ≤ limit → parse + 2 + 4 * limit ≤ length memory → Changes (parse + 1) (1 + 4 * limit) memory (with_words story parse words memory)
words_change story parse limit words memory few fits =
    let inner = with_blocks story (parse + 2) words memory in
    let blocks = blocks_change story (parse + 2) words memory (omega (arith, few, fits)) in
    let count = set_changes inner (parse + 1) (length words) in
    one_then (parse + 1) (1 + 4 * limit) memory inner _ (wider (parse + 1) (1 + 4 * limit) (parse + 2) (4 * length words) memory inner (omega arith) (omega (arith, few)) blocks) (wider (parse + 1) (1 + 4 * limit) (parse + 1) 1 inner _ (omega arith) (omega arith) count)

text_change : (text size : ℕ) (stored memory : List ℕ) → length stored < size → text + 1 + size ≤ length memory → Changes (text + 1) size memory (with_text text stored memory)
text_change text size stored memory few fits =
    let inner = with_bytes (text + 1) stored memory in
    let bytes = bytes_change (text + 1) stored memory (omega (arith, few, fits)) in
    let end = set_changes inner (text + 1 + length stored) 0 in
    one_then (text + 1) size memory inner _ (wider (text + 1) size (text + 1) (length stored) memory inner (omega arith) (omega (arith, few)) bytes) (wider (text + 1) size (text + 1 + length stored) 1 inner _ (omega arith) (omega (arith, few)) end)

few_taken : {A : Type 0} (n : ℕ) (xs : List A) → length (take n xs) ≤ n
few_taken zero xs = omega arith
few_taken (suc n) [] = omega arith
few_taken (suc n) (x ∷ xs) = let h = few_taken n xs in omega (arith, h)

pub text_length : (size : ℕ) (line : List ℕ) → length (stored_text size line) ≤ size - 1
text_length size line = let same : length (map stored_byte (take (size - 1) line)) ≡ length (take (size - 1) line) = length-map _ _ in let few = few_taken (size - 1) line in omega (arith, same, few)

-- ---- bytes stay bytes

set_are : (memory : List ℕ) (at byte : ℕ) → byte < 256 → AreBytes memory → AreBytes (slice_set memory at byte)
set_are memory at byte small are q = elim (cases_lt q (length memory)) [
  | inr past ↦ let e : byte_at (slice_set memory at byte) q ≡ 0 = get_or_past (slice_set memory at byte) q 0 (let size : length (slice_set memory at byte) ≡ length memory = length-set memory at byte in omega (arith, size, past)) in omega (arith, e)
  | inl inside ↦ elim (cases_lt q at) [
    | inl low ↦ let e : byte_at (slice_set memory at byte) q ≡ byte_at memory q = (set_changes memory at byte).same q (inl low) in omega (arith, e, are q)
    | inr high ↦ elim (cases_lt at q) [
      | inl above ↦ let e : byte_at (slice_set memory at byte) q ≡ byte_at memory q = (set_changes memory at byte).same q (inr (omega (arith, above))) in omega (arith, e, are q)
      | inr low ↦ let here : q ≡ at = omega (arith, high, low) in let e : byte_at (slice_set memory at byte) q ≡ byte = ap (byte_at (slice_set memory at byte)) here ∙ get_or-set_same memory at byte 0 (omega (arith, here, inside)) in omega (arith, e, small)
    ]
  ]
]

bytes_are : (place : ℕ) (bytes memory : List ℕ) → place + length bytes ≤ length memory → AreBytes bytes → AreBytes memory → AreBytes (with_bytes place bytes memory)
bytes_are place bytes memory fits small are q = elim (cases_lt q place) [
  | inl low ↦ let e : byte_at (with_bytes place bytes memory) q ≡ byte_at memory q = before_bytes place bytes memory fits q low in omega (arith, e, are q)
  | inr high ↦ elim (cases_lt (q - place) (length bytes)) [
    | inl inside ↦
        let e : byte_at (with_bytes place bytes memory) q ≡ byte_at bytes (q - place) = from_bytes place bytes memory fits q (omega (arith, high)) ∙ get_or_append_left bytes (drop (place + length bytes) memory) 0 (q - place) inside in
        omega (arith, e, small (q - place))
    | inr past ↦ let e : byte_at (with_bytes place bytes memory) q ≡ byte_at memory q = behind_bytes place bytes memory fits q (omega (arith, high, past)) in omega (arith, e, are q)
  ]
]

stored_small : (byte : ℕ) → stored_byte byte < 256
stored_small byte = by (nat_le 0x41 byte && nat_le byte 0x5A) refl
  where
    printable : (b : Bool) → (nat_le 0x20 byte && nat_le byte 0x7E) ≡ b → (if b then byte else 0x3F) < 256
    printable true e = let h = leb-true byte 0x7E (and_parts (nat_le 0x20 byte) (nat_le byte 0x7E) e).1 in omega (arith, h)
    printable false e = omega arith

    by : (b : Bool) → (nat_le 0x41 byte && nat_le byte 0x5A) ≡ b → (if b then byte + 32 else (if nat_le 0x20 byte && nat_le byte 0x7E then byte else 0x3F)) < 256
    by true e = let h = leb-true byte 0x5A (and_parts (nat_le 0x41 byte) (nat_le byte 0x5A) e).1 in omega (arith, h)
    by false e = printable (nat_le 0x20 byte && nat_le byte 0x7E) refl

mapped_are : (bytes : List ℕ) → AreBytes (map stored_byte bytes)
mapped_are [] q = omega arith
mapped_are (byte ∷ bytes) zero = stored_small byte
mapped_are (byte ∷ bytes) (suc q) = mapped_are bytes q

-- ---- what is said of a word is bytes

found_one : (test : ℕ → Bool) (place : ℕ → ℕ) (bound from n : ℕ) → ((k : ℕ) → k < from + n → place k < bound) → IfSome (find test (map place (range_with_len from n))) (λ p. p < bound)
found_one test place bound from zero small = tt
found_one test place bound from (suc n) small = by (test (place from)) (found_one test place bound (from + 1) n (λ k h. small k (omega (arith, h))))
  where
    by : (b : Bool) → IfSome (find test (map place (range_with_len (from + 1) n))) (λ p. p < bound) → IfSome (if b then Some (place from) else find test (map place (range_with_len (from + 1) n))) (λ p. p < bound)
    by true rest = small from (omega arith)
    by false rest = rest

lookup_small : (story word : List ℕ) → IsSound story → lookup story word < 65536
unfolding lookup
lookup_small story word sound = of (find (has_word story word) (entry_places story)) (found_one (has_word story word) (entry_place story) 65536 0 (entry_count story) small)
  where
    small : (k : ℕ) → k < 0 + entry_count story → entry_place story k < 65536
    small k listed = let within = entry_inside story k (entry_place story 0) (entry_length story) (entry_count story) sound refl refl refl (omega (arith, listed)) in omega (arith, within)

    of : (r : Option ℕ) → IfSome r (λ p. p < 65536) → unwrap_or r 0 < 65536
    of None h = omega arith
    of (Some p) h = h

block_are : (story : List ℕ) (word : Span) → IsSound story → length word.bytes < 256 → word.place < 255 → AreBytes (block story word)
block_are story word sound few at zero = let h = lookup_small story (word_code word.bytes) sound in omega (arith, h)
block_are story word sound few at (suc zero) = omega arith
block_are story word sound few at (suc (suc zero)) = few
block_are story word sound few at (suc (suc (suc zero))) = omega (arith, at)
block_are story word sound few at (suc (suc (suc (suc q)))) = omega arith

-- the words of a text of at most 254 bytes
blocks_are : (story : List ℕ) (place from : ℕ) (text : List ℕ) (words : List Span) (memory : List ℕ) → IsSound story → length text < 255 → AreParts text from words → place + 4 * length words ≤ length memory → AreBytes memory → AreBytes (with_blocks story place words memory)
unfolding with_blocks
blocks_are story place from text [] memory sound few parts fits are = are
blocks_are story place from text (word ∷ words) memory sound few parts fits are =
    let part = parts.1 in
    let here = bytes_are place (block story word) memory (omega (arith, fits)) (block_are story word sound (omega (arith, part.within, few)) (omega (arith, part.within, part.some, few))) are in
    let size = bytes_size place (block story word) memory (omega (arith, fits)) in
    blocks_are story (place + 4) (word.place + length word.bytes) text words (with_bytes place (block story word) memory) sound few parts.2 (omega (arith, fits, size)) here

first_parts : (text : List ℕ) (n from : ℕ) (words : List Span) → AreParts text from words → AreParts text from (take n words)
first_parts text zero from words parts = tt
first_parts text (suc n) from [] parts = tt
first_parts text (suc n) from (word ∷ words) parts = (parts.0, parts.1, first_parts text n (word.place + length word.bytes) words parts.2)

pub lines_stay : LinesStay
unfolding with_line
lines_stay story memory line text parse has =
    let size = byte_at memory text in
    let limit = byte_at memory parse in
    let stored = stored_text size line in
    let few = text_length size line in
    let words = words_of story limit stored in
    let many = few_taken limit (tokens (separators story) stored) in
    let written = with_text text stored memory in
    let first = text_change text size stored memory (omega (arith, few, has.some)) has.text_within in
    let second = words_change story parse limit words written many (omega (arith, has.parse_within, first.size)) in
    record {
      size = second.size ∙ first.size;
      same = λ place apart behind. second.same place behind ∙ first.same place apart;
      bytes = λ sound are.
          let texts = set_are _ (text + 1 + length stored) 0 (omega arith) (bytes_are (text + 1) stored memory (omega (arith, few, has.some, has.text_within)) (mapped_are (take (size - 1) line)) are) in
          let short : length stored < 255 = omega (arith, few, are text) in
          let parts = first_parts stored limit 0 (tokens (separators story) stored) (parts_of_line (separators story) stored) in
          let told = blocks_are story (parse + 2) 0 stored words written sound short parts (omega (arith, has.parse_within, first.size, many)) texts in
          set_are (with_blocks story (parse + 2) words written) (parse + 1) (length words) (omega (arith, many, are parse)) told;
    }
