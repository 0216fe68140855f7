-- Values of the definitions, computed.
use Rattle.std.proofs.Common.{◌≡◌, ◌⊎◌, inl, inr, ℕ, zero, suc, ◌+◌, ◌-◌, ◌%◌, ◌<◌, ◌≤◌, Bool, true, false, List, [], ◌∷◌, ◌++◌, replicate, length, drop, Some, None, refl, sym, subst, ◌∙◌, arith}
use Rattle.std.proofs.lemmas.Option.{same_Some}
use Rattle.ztext.specs.Words.{text_at}
use Rattle.zdomain.specs.Domain.{In}
use Rattle.zdomain.specs.Interval.{interval_operations}
use Rattle.zdomain.specs.IntervalLaw.{interval_sound}
use Rattle.zdomain.specs.declared.values.Values.{Values}
use Rattle.zdomain.specs.Values.{values_operations, packed}
use Rattle.zdomain.specs.Few.{gathered, with_words, rises_behind, last_behind, place_in, is_scattered, words_from}
use Rattle.zdomain.specs.declared.interval.Interval.{Interval}
use Rattle.zstory.specs.Bytes.{readable_end}
use Rattle.zstory.specs.LoadedStory.{LoadedStory}
use Rattle.zarray.specs.declared.width.Width.TheVariants.{Byte, Word}
use Rattle.zword.specs.declared.addressing.Addressing.TheVariants as addressings
use Rattle.zword.specs.Addressing.{place_of}
use Rattle.zpairs.specs.Frozen.{FrozenStory, frozen_by}
use Rattle.zpairs.specs.Ends.{exactly}
use Rattle.zpairs.specs.Members.{members}
use Rattle.zplace.specs.Bytes.{IsChanging, IsFixed, IsOpen, static}
use Rattle.zpairs.specs.Fixed.{any_below, is_in_abbreviation, is_size_place, is_in_text, is_closed, is_changing, is_fixed}
use Rattle.zruns.specs.Runs.{AreOpen, AreReadable, run_of, address, cell_at, no_cell, merged, merged_below, any_element, sums, elements}
use Rattle.zruns.specs.Blocks.{step_length}
use Rattle.zruns.specs.Texts.{HasFixedText, AreFixedTexts, begins_text}
use Rattle.zruns.specs.Names.{AreFixedNames, HasFixedName}
use Rattle.zruns.specs.Buffers.{IsTextBuffer, IsParseBuffer, AreBuffers}
use Rattle.zpairs.proofs.Telling.{fixed_is}
use Rattle.zruns.proofs.Beginnings.{begins, none_is_some}
use Rattle.zruns.proofs.Buffers.{piece_open}
use Rattle.zruns.proofs.Pieces.{end_by_sums, open_by_sums}

between : ℕ → ℕ → Interval
between = interval_operations.between

none_yes : (b : Bool) → b ≡ false → b ≡ true → ⊥
none_yes b never always = let e = sym never ∙ always in cc

-- ---- runs

-- words at one array: each index counts twice; bytes from address -2 to 1, round 65,535; an index below 0
runs : (run_of interval_operations Word (between 1000 1000) (between 0 3) ≡ record { first = 1000; more = 6 }) × (run_of interval_operations Byte (between 65534 1) (between 0 0) ≡ record { first = 65534; more = 3 }) × (run_of interval_operations Word (between 1000 1000) (between 65535 0) ≡ record { first = 998; more = 2 }) × (run_of interval_operations Byte (between 1000 1001) (between 65535 2) ≡ record { first = 999; more = 4 })
unfolding between
runs = (refl, refl, refl, refl)

-- all arrays, and all indices: 131,071 sums are all addresses, and no more than that
whole_runs : (run_of interval_operations Byte interval_operations.any (between 0 0) ≡ record { first = 32768; more = 65535 }) × (run_of interval_operations Word (between 0 0) interval_operations.any ≡ record { first = 0; more = 65535 }) × (run_of interval_operations Byte (between 7 7) (between 0 65535) ≡ record { first = 32775; more = 65535 })
unfolding between
whole_runs = (refl, refl, refl)

addresses : (address (record { first = 65534; more = 3 }) 0 ≡ 65534) × (address (record { first = 65534; more = 3 }) 1 ≡ 65535) × (address (record { first = 65534; more = 3 }) 2 ≡ 0) × (address (record { first = 65534; more = 3 }) 3 ≡ 1)
addresses = (refl, refl, refl, refl)

steps : (step_length 255 1000 ≡ 1) × (step_length 256 512 ≡ 256) × (step_length 256 511 ≡ 255) × (step_length 0 65536 ≡ 256) × (step_length 256 600 ≡ 256)
steps = (refl, refl, refl, refl, refl)

-- ---- a story with one object

-- The globals from 0x40, the object table from 0x220 with its only entry at 0x25E, and static memory from 0x280, where the table of
-- abbreviations is
front : List ℕ
front = 0x03 ∷ 0x00 ∷ 0x00 ∷ 0x01 ∷ 0x02 ∷ 0x80 ∷ 0x02 ∷ 0x80 ∷ 0x02 ∷ 0x80 ∷ 0x02 ∷ 0x20 ∷ 0x00 ∷ 0x40 ∷ 0x02 ∷ 0x80 ∷ replicate 8 0 ++ 0x02 ∷ 0x80 ∷ replicate 587 0

-- The property table, at 0x267: no name, property 5 with a byte of data at 0x269, and its end. From 0x26C on a text of two words, two
-- words more, and zeros up to the first two abbreviations, at 0x26C and 0x280; behind these memory ends
tables : List ℕ
tables = 0x02 ∷ 0x67 ∷ 0x00 ∷ 0x05 ∷ 0x2A ∷ 0x00 ∷ 0x00 ∷ 0x00 ∷ 0x00 ∷ 0x80 ∷ 0x00 ∷ 0xFF ∷ 0xFE ∷ 0x01 ∷ 0x02 ∷ replicate 12 0 ++ 0x01 ∷ 0x36 ∷ 0x01 ∷ 0x40 ∷ []

story : LoadedStory
story = record { memory = front ++ tables; objects = 1 }

-- the second of the two words is frozen
told : FrozenStory
told = record { story = story; ranges = record { first = 0x272; last = 0x273 } ∷ [] }

-- the header, without Flags 2
closed_header : (is_closed told 0x0F ≡ true) × (is_closed told 0x10 ≡ false) × (is_closed told 0x11 ≡ false) × (is_closed told 0x12 ≡ true) × (is_closed told 0x3F ≡ true)
unfolding told story front tables any_below is_size_place
closed_header = (refl, refl, refl, refl, refl)

-- the globals, the defaults and the entry
closed_tables : (is_closed told 0x40 ≡ true) × (is_closed told 0x21F ≡ true) × (is_closed told 0x220 ≡ true) × (is_closed told 0x266 ≡ true)
unfolding told story front tables any_below is_size_place
closed_tables = (refl, refl, refl, refl)

-- the property table without its data, and what lies behind
closed_property : (is_closed told 0x267 ≡ true) × (is_closed told 0x268 ≡ true) × (is_closed told 0x269 ≡ false) × (is_closed told 0x26A ≡ true) × (is_closed told 0x26B ≡ false)
unfolding told story front tables any_below is_size_place
closed_property = (refl, refl, refl, refl, refl)

-- the text, the words behind it, and static memory, whether there are bytes or not
closed_rest : (is_closed told 0x26C ≡ true) × (is_closed told 0x26F ≡ true) × (is_closed told 0x270 ≡ false) × (is_closed told 0x272 ≡ true) × (is_closed told 0x273 ≡ true) × (is_closed told 0x274 ≡ false) × (is_closed told 0x27F ≡ false) × (is_closed told 0x280 ≡ true) × (is_closed told 65535 ≡ true) × (is_closed told 65536 ≡ true)
unfolding told story front tables any_below is_size_place
closed_rest = (refl, refl, refl, refl, refl, refl, refl, refl, refl, refl)

-- a text without an end goes on to the end of memory, and a word that can't be read leads to none
texts : (is_in_text (0x00 ∷ 0x00 ∷ 0x01 ∷ 0x02 ∷ 0x03 ∷ []) (Some 1) 1 ≡ false) × (is_in_text (0x00 ∷ 0x00 ∷ 0x01 ∷ 0x02 ∷ 0x03 ∷ []) (Some 1) 4 ≡ true) × (is_in_text (0x00 ∷ 0x00 ∷ 0x01 ∷ 0x02 ∷ 0x03 ∷ []) (Some 1) 5 ≡ false) × (is_in_text (0x00 ∷ 0x00 ∷ []) None 0 ≡ false)
texts = (refl, refl, refl, refl)

-- of a table at 4, the word of the fourth abbreviation at 10, and its text at 16
led_to : List ℕ
led_to = replicate 10 0 ++ 0 ∷ 8 ∷ replicate 4 0 ++ 0x94 ∷ 0xA5 ∷ 0 ∷ []

abbreviated : (is_in_abbreviation led_to 4 3 9 ≡ false) × (is_in_abbreviation led_to 4 3 10 ≡ true) × (is_in_abbreviation led_to 4 3 11 ≡ true) × (is_in_abbreviation led_to 4 3 12 ≡ false) × (is_in_abbreviation led_to 4 3 15 ≡ false) × (is_in_abbreviation led_to 4 3 16 ≡ true) × (is_in_abbreviation led_to 4 3 17 ≡ true) × (is_in_abbreviation led_to 4 3 18 ≡ false)
unfolding led_to
abbreviated = (refl, refl, refl, refl, refl, refl, refl, refl)

-- of an entry, the first seven bytes
changing : (is_changing story 0x10 ≡ true) × (is_changing story 0x12 ≡ false) × (is_changing story 0x40 ≡ true) × (is_changing story 0x21F ≡ true) × (is_changing story 0x25D ≡ false) × (is_changing story 0x25E ≡ true) × (is_changing story 0x264 ≡ true) × (is_changing story 0x265 ≡ false) × (is_changing story 0x267 ≡ false)
unfolding story front tables any_below
changing = (refl, refl, refl, refl, refl, refl, refl, refl, refl)

fixed : (is_fixed told 0x0F ≡ true) × (is_fixed told 0x10 ≡ false) × (is_fixed told 0x40 ≡ false) × (is_fixed told 0x220 ≡ true) × (is_fixed told 0x25E ≡ false) × (is_fixed told 0x265 ≡ true) × (is_fixed told 0x269 ≡ false) × (is_fixed told 0x272 ≡ true) × (is_fixed told 65536 ≡ true)
unfolding told story front tables any_below is_size_place
fixed = (refl, refl, refl, refl, refl, refl, refl, refl, refl)

-- ---- cells

-- an open byte, a fixed one, and one that is neither; a word is open, and fixed, where both of its bytes are
cells : (cell_at told Byte 0x269 ≡ record { is_open = true; fixed = false; ends = exactly 0x2A }) × (cell_at told Byte 0x272 ≡ record { is_open = false; fixed = true; ends = exactly 0x01 }) × (cell_at told Byte 0x40 ≡ record { is_open = false; fixed = false; ends = exactly 0 }) × (cell_at told Word 0x270 ≡ record { is_open = true; fixed = false; ends = exactly 0xFFFE }) × (cell_at told Word 0x271 ≡ record { is_open = false; fixed = false; ends = exactly 0xFE01 }) × (cell_at told Word 0x272 ≡ record { is_open = false; fixed = true; ends = exactly 0x0102 }) × (cell_at told Word 0x273 ≡ record { is_open = false; fixed = false; ends = exactly 0x0200 })
unfolding told story front tables any_below is_size_place
cells = (refl, refl, refl, refl, refl, refl, refl)

-- -2 and 258
both_cells :
    (merged (cell_at told Word 0x270) (cell_at told Word 0x272) ≡ record { is_open = false; fixed = false; ends = record { least = 0x7FFE; greatest = 0x8102 } }) × (merged no_cell (cell_at told Word 0x272) ≡ cell_at told Word 0x272)
    × ((merged (cell_at told Word 0x272) (cell_at told Word 0x270)).is_open ≡ false)
unfolding told story front tables any_below is_size_place
both_cells = (refl, refl, refl)

-- ---- what is read

-- up to the last byte of memory
at_end : AreReadable interval_operations story Word (between 0x282 0x282) (between 0 0) × AreReadable interval_operations story Byte (between 0x283 0x283) (between 0 0) × (AreReadable interval_operations story Word (between 0x283 0x283) (between 0 0) → ⊥) × (AreReadable interval_operations story Byte (between 0x284 0x284) (between 0 0) → ⊥)
unfolding between story front tables
at_end = (λ k few. omega (arith, few, end), λ k few. omega (arith, few, end), λ are. omega (arith, are 0 (omega arith), end), λ are. omega (arith, are 0 (omega arith), end))
  where
    end : readable_end story.memory ≡ 0x284
    end = refl

-- of an array at 0x268 byte 1 is open, the property's data, and byte 2 isn't, which ends the list
abbrev Open : ℕ → Type 0
Open p = IsOpen story (frozen_by told.ranges) p

data_open : (k : ℕ) → k ≤ 0 → (j : ℕ) → j < 1 → Open ((0x269 + k) % 65536 + j)
unfolding told story front tables any_below is_size_place merged_below
data_open zero none zero one = (piece_open told 0x269 1).0 refl 0x269 (omega arith, omega arith)
data_open zero none (suc j) one = absurd (omega (arith, one))
data_open (suc k) none j one = absurd (omega (arith, none))

at_index : AreOpen interval_operations story (frozen_by told.ranges) Byte (between 0x268 0x268) (between 1 1) × (AreOpen interval_operations story (frozen_by told.ranges) Byte (between 0x268 0x268) (between 2 2) → ⊥)
unfolding between told story front tables any_below is_size_place merged_below
at_index = (data_open, λ are. none_open ((piece_open told 0x26A 1).1 (λ p within. (let here : p ≡ 0x26A = omega (arith, within.0, within.1) in subst Open (sym here) (are 0 (omega arith) 0 (omega arith))))))
  where
    none_open : false ≡ true → ⊥
    none_open e = cc

any_elements : (any_element interval_operations Byte ≡ between 0 255) × (any_element interval_operations Word ≡ interval_operations.any)
unfolding between
any_elements = (refl, refl)

-- Bytes of the text, and its words: those at odd addresses are among them. The frozen word is known; with one more byte it isn't
read : (elements interval_operations told Byte (between 0x26C 0x26C) (between 0 3) ≡ between 0 0x80) × (elements interval_operations told Word (between 0x26C 0x26C) (between 0 1) ≡ between 0x8000 0x80) × (elements interval_operations told Word (between 0x270 0x270) (between 1 1) ≡ between 0x0102 0x0102) × (elements interval_operations told Byte (between 0x272 0x274) (between 0 0) ≡ between 0 255) × (elements interval_operations told Word (between 0x272 0x273) (between 0 0) ≡ interval_operations.any)
unfolding between told story front tables any_below is_size_place merged_below
read = (refl, refl, refl, refl, refl)

-- ---- what is read of lists

abbrev of : List ℕ → Values
of words = packed (gathered words)

abbrev many : Values
many = values_operations.between 0 64

-- of each array each index; round 65,535; of no arrays none
sums_of : (sums Word (1000 ∷ 1003 ∷ []) (0 ∷ 3 ∷ []) ≡ 1000 ∷ 1006 ∷ 1003 ∷ 1009 ∷ []) × (sums Byte (65535 ∷ []) (0 ∷ 2 ∷ 65534 ∷ []) ≡ 65535 ∷ 1 ∷ 65533 ∷ []) × (sums Byte [] (0 ∷ 1 ∷ []) ≡ [])
unfolding sums
sums_of = (refl, refl, refl)

-- both lists where both sets have at most 64 words, a run of them among these
both_lists : (members values_operations (of (7 ∷ 5 ∷ [])) (values_operations.between 1 2) ≡ Some (5 ∷ 7 ∷ [], 1 ∷ 2 ∷ [])) × (members values_operations (of (7 ∷ 5 ∷ [])) many ≡ None) × (members values_operations many (of (7 ∷ 5 ∷ [])) ≡ None) × (members interval_operations (between 1 1) (between 2 2) ≡ None)
unfolding between with_words rises_behind last_behind place_in is_scattered words_from
both_lists = (refl, refl, refl, refl)

-- What stands at each sum, in the place of all that lies between. One byte that may change makes a word unknown; and where one set has more
-- words than are told, all are read from the least sum to the greatest
read_of_lists :
    (elements values_operations told Byte (of (0x272 ∷ 0x26E ∷ [])) (values_operations.single 0) ≡ of (0x01 ∷ 0x80 ∷ [])) × (elements values_operations told Word (values_operations.single 0x26C) (of (0 ∷ 3 ∷ [])) ≡ of (0x0000 ∷ 0x0102 ∷ [])) × (elements values_operations told Word (of (0x26C ∷ 0x272 ∷ [])) (of (0 ∷ 2 ∷ [])) ≡ values_operations.any)
    × (elements values_operations told Byte (of (0x26E ∷ 0x271 ∷ [])) (values_operations.single 0) ≡ values_operations.between 0 255) × (elements values_operations told Byte (of (0x282 ∷ 0x280 ∷ [])) many ≡ values_operations.between 0 0x40)
unfolding told story front tables any_below is_size_place merged_below sums between with_words rises_behind last_behind place_in is_scattered words_from
read_of_lists = (refl, refl, refl, refl, refl)

-- The last byte of memory, and the one behind it: a place between two that can't be read isn't asked
readable_lists : AreReadable values_operations story Byte (of (0x283 ∷ 0x10 ∷ [])) (values_operations.single 0) × (AreReadable values_operations story Byte (of (0x10 ∷ 0x284 ∷ [])) (values_operations.single 0) → ⊥)
unfolding between story front tables sums with_words rises_behind last_behind place_in is_scattered words_from
readable_lists = (
  (end_by_sums Byte 0x284 0x283 (run_of values_operations Byte (of (0x283 ∷ 0x10 ∷ [])) (values_operations.single 0)) _ (0x10 ∷ 0x283 ∷ []) (0 ∷ []) (0x10 ∷ 0x283 ∷ []) (0 ∷ []) true refl refl refl refl refl).0 refl,
  λ are. none_yes _ refl ((end_by_sums Byte 0x284 0x283 (run_of values_operations Byte (of (0x10 ∷ 0x284 ∷ [])) (values_operations.single 0)) _ (0x10 ∷ 0x284 ∷ []) (0 ∷ []) (0x10 ∷ 0x284 ∷ []) (0 ∷ []) false refl refl refl refl refl).1 are),
)

-- the property's data and the word at 0x270, between which bytes are closed; not with one of these
open_lists : AreOpen values_operations story (frozen_by told.ranges) Byte (values_operations.single 0x269) (of (0 ∷ 7 ∷ 8 ∷ [])) × (AreOpen values_operations story (frozen_by told.ranges) Byte (values_operations.single 0x269) (of (0 ∷ 6 ∷ 8 ∷ [])) → ⊥)
unfolding between told story front tables any_below is_size_place sums with_words rises_behind last_behind place_in is_scattered words_from
open_lists = (
  (open_by_sums told Byte told (run_of values_operations Byte (values_operations.single 0x269) (of (0 ∷ 7 ∷ 8 ∷ []))) _ (0x269 ∷ []) (0 ∷ 7 ∷ 8 ∷ []) (0x269 ∷ []) (0 ∷ 7 ∷ 8 ∷ []) true refl refl refl refl refl).0 refl,
  λ are. none_yes _ refl ((open_by_sums told Byte told (run_of values_operations Byte (values_operations.single 0x269) (of (0 ∷ 6 ∷ 8 ∷ []))) _ (0x269 ∷ []) (0 ∷ 6 ∷ 8 ∷ []) (0x269 ∷ []) (0 ∷ 6 ∷ 8 ∷ []) false refl refl refl refl refl).1 are),
)

-- ---- texts

abbrev Stays : ℕ → Type 0
Stays p = IsFixed story (frozen_by told.ranges) p

abbrev Fixed : ℕ → Type 0
Fixed at = HasFixedText story (frozen_by told.ranges) at

text_byte : (k : ℕ) → k < 4 → Stays (0x26C + k)
unfolding told story front tables any_below is_size_place
text_byte zero few = (fixed_is told 0x26C).0 refl
text_byte (suc zero) few = (fixed_is told 0x26D).0 refl
text_byte (suc (suc zero)) few = (fixed_is told 0x26E).0 refl
text_byte (suc (suc (suc zero))) few = (fixed_is told 0x26F).0 refl
text_byte (suc (suc (suc (suc k)))) few = absurd (omega (arith, few))

text_stays : (p : ℕ) → 0x26C ≤ p → p < 0x270 → Stays p
text_stays p above below = let same : 0x26C + (p - 0x26C) ≡ p = omega (arith, above) in subst Stays same (text_byte (p - 0x26C) (omega (arith, above, below)))

-- the text of an abbreviation, and its last word
fixed_texts : Fixed 0x26C × Fixed 0x26E
unfolding told story front tables
fixed_texts = (
  record { text = 0x00 ∷ 0x00 ∷ 0x80 ∷ 0x00 ∷ []; found = refl; fixed = λ p within. (let above = within.0 in let below = within.1 in text_stays p above (omega (arith, below))) },
  record { text = 0x80 ∷ 0x00 ∷ []; found = refl; fixed = λ p within. (let above = within.0 in let below = within.1 in text_stays p (omega (arith, above)) (omega (arith, below))) },
)

open_word : Stays 0x270 → ⊥
unfolding told story front tables any_below is_size_place
open_word stays = none_yes (is_fixed told 0x270) refl ((fixed_is told 0x270).1 stays)
  where
    none_yes : (b : Bool) → b ≡ false → b ≡ true → ⊥
    none_yes b never always = let e = sym never ∙ always in cc

-- An end word that is open, and a text that goes on to its first byte; the frozen word and those of static memory have no end behind them
other_texts : (Fixed 0x270 → ⊥) × (Fixed 0x26D → ⊥) × (Fixed 0x272 → ⊥) × (Fixed 0x280 → ⊥) × (Fixed 0x283 → ⊥)
unfolding told story front tables
other_texts = (
  λ has. open_word (begins story (frozen_by told.ranges) 0x270 has).high,
  λ has. by_rest (begins story (frozen_by told.ranges) 0x26D has).rest,
  λ has. none_is_some None has.text refl has.found,
  λ has. none_is_some None has.text refl has.found,
  λ has. none_is_some None has.text refl has.found,
)
  where
    by_rest : (128 ≤ 0) ⊎ Fixed 0x26F → ⊥
    by_rest (inl last) = omega (arith, last)
    by_rest (inr has) = open_word (begins story (frozen_by told.ranges) 0x26F has).low

-- an end word is fixed where both of its bytes are, and is in memory: the last one begins at 0x282
words_begin : (begins_text told 0x26E false ≡ true) × (begins_text told 0x26C false ≡ false) × (begins_text told 0x26C true ≡ true) × (begins_text told 0x271 true ≡ false) × (begins_text told 0x273 true ≡ false) × (begins_text told 0x282 true ≡ true) × (begins_text told 0x283 true ≡ false)
unfolding told story front tables any_below is_size_place
words_begin = (refl, refl, refl, refl, refl, refl, refl)

-- a packed address names twice its place; each word of a set is asked
sets_of_texts : AreFixedTexts interval_operations story (frozen_by told.ranges) addressings.Packed (interval_operations.single 0x136) × AreFixedTexts interval_operations story (frozen_by told.ranges) addressings.Byte (interval_operations.single 0x26E) × (AreFixedTexts interval_operations story (frozen_by told.ranges) addressings.Packed (between 0x137 0x138) → ⊥) × (AreFixedTexts interval_operations story (frozen_by told.ranges) addressings.Byte (between 0x26C 0x26E) → ⊥)
unfolding between
sets_of_texts = (
  λ x inside. (let is : x ≡ 0x136 = interval_sound.known (interval_operations.single 0x136) 0x136 x refl inside in subst (λ (y : ℕ). Fixed (place_of addressings.Packed y)) (sym is) fixed_texts.0),
  λ x inside. (let is : x ≡ 0x26E = interval_sound.known (interval_operations.single 0x26E) 0x26E x refl inside in subst (λ (y : ℕ). Fixed (place_of addressings.Byte y)) (sym is) fixed_texts.1),
  λ all. other_texts.0 (all 0x138 (interval_sound.between 0x137 0x138 0x138 (record { le = tt }) (record { le = tt }) (omega arith))),
  λ all. other_texts.1 (all 0x26D (interval_sound.between 0x26C 0x26E 0x26D (record { le = tt }) (record { le = tt }) (omega arith))),
)

-- ---- short names

-- the story with its property table elsewhere. Static memory has four bytes, a name of one word at 0x284, and one without an end at 0x287
named_at : ℕ → LoadedStory
named_at low = record { memory = front ++ 0x02 ∷ low ∷ drop 2 tables ++ 0x01 ∷ 0x94 ∷ 0xA5 ∷ 0x01 ∷ 0x14 ∷ 0xA5 ∷ []; objects = 1 }

abbrev Named : ℕ → Type 0
Named low = HasFixedName (named_at low) (frozen_by []) 1

static_byte : (p : ℕ) → 0x280 ≤ p → IsFixed (named_at 0x84) (frozen_by []) p
unfolding named_at front tables
static_byte p above = record { closed = static above; unchanging = still }
  where
    still : IsChanging (named_at 0x84) p → ⊥
    still (inl flags) = omega (arith, flags.1, above)
    still (inr (inl inside)) = omega (arith, inside.1, above)
    still (inr (inr state)) = let inside = state.inside.1 in let first = state.first in let last = state.last in omega (arith, inside, first, last, above)

-- a name of no words, one in static memory, one without an end, and one that begins behind the last byte
static_names : Named 0x67 × Named 0x84 × (Named 0x87 → ⊥) × (Named 0x89 → ⊥)
unfolding named_at front tables
static_names = (
  tt,
  record { text = 0x94 ∷ 0xA5 ∷ []; found = refl; fixed = λ p within. (let above = within.0 in static_byte p (omega (arith, above))) },
  λ has. none_is_some None has.text refl has.found,
  λ outside. outside,
)

-- a text that goes on behind the two words that are stated, over bytes that stores may write; not where these are frozen
open_name : (Named 0x73 → ⊥) × (is_fixed (record { story = named_at 0x73; ranges = [] }) 0x277 ≡ true) × (is_fixed (record { story = named_at 0x73; ranges = [] }) 0x279 ≡ false) × (is_fixed (record { story = named_at 0x73; ranges = record { first = 0x279; last = 0x279 } ∷ [] }) 0x279 ≡ true)
unfolding named_at front tables any_below is_size_place
open_name = (
  λ has. none_yes (is_fixed (record { story = named_at 0x73; ranges = [] }) 0x279) refl ((fixed_is (record { story = named_at 0x73; ranges = [] }) 0x279).1 (has.fixed 0x279 (omega arith, long has.text has.found))),
  refl,
  refl,
  refl,
)
  where
    none_yes : (b : Bool) → b ≡ false → b ≡ true → ⊥
    none_yes b never always = let e = sym never ∙ always in cc

    long : (text : List ℕ) → text_at (named_at 0x73).memory 0x274 ≡ Some text → 0x279 < 0x274 + length text
    long text found = subst (λ (t : List ℕ). 0x279 < 0x274 + length t) (same_Some _ _ found) (omega arith)

-- of a set: the story has object 1 alone
named_sets : AreFixedNames interval_operations (named_at 0x84) (frozen_by []) (between 1 9) × AreFixedNames interval_operations (named_at 0x87) (frozen_by []) (between 2 9) × (AreFixedNames interval_operations (named_at 0x87) (frozen_by []) (between 1 1) → ⊥)
unfolding between named_at
named_sets = (
  λ x first last inside. subst (HasFixedName (named_at 0x84) (frozen_by [])) (only x first last) static_names.1,
  λ x first last inside. absurd (none_there x first last inside),
  λ all. static_names.2 (all 1 (omega arith) (omega arith) (interval_sound.single 1 (omega arith))),
)
  where
    only : (x : ℕ) → 1 ≤ x → x ≤ 1 → 1 ≡ x
    only x first last = omega (arith, first, last)

    none_there : (x : ℕ) → 1 ≤ x → x ≤ 1 → In interval_operations (interval_operations.between 2 9) x → ⊥
    none_there x first last inside = subst (λ (y : ℕ). In interval_operations (interval_operations.between 2 9) y → ⊥) (only x first last) (λ one. one.member.0.le) inside

-- no run is longer than the greatest word

-- ---- buffers

-- the story with two bytes frozen; of those that may be, 0x272 is 1, 0x273 is 2 and 0x274 is 0
abbrev freezing : ℕ → ℕ → FrozenStory
freezing p q = record { story = story; ranges = record { first = p; last = p } ∷ record { first = q; last = q } ∷ [] }

abbrev TextAt : ℕ → FrozenStory → Type 0
TextAt at t = IsTextBuffer t.story (frozen_by t.ranges) at

abbrev ParseAt : ℕ → FrozenStory → Type 0
ParseAt at t = IsParseBuffer t.story (frozen_by t.ranges) at

-- two bytes behind a 2 that is frozen; not where the second of them is frozen, behind a 1, or where the 2 isn't frozen
text_buffers : TextAt 0x273 (freezing 0x273 0x276) × (TextAt 0x273 (freezing 0x273 0x275) → ⊥) × (TextAt 0x272 (freezing 0x272 0x280) → ⊥) × (TextAt 0x273 (freezing 0x272 0x276) → ⊥)
unfolding story front tables any_below is_size_place merged_below
text_buffers = (
  record { fixed = (fixed_is (freezing 0x273 0x276) 0x273).0 refl; large = omega arith; free = (piece_open (freezing 0x273 0x276) 0x274 2).0 refl },
  λ b. none_yes _ refl ((piece_open (freezing 0x273 0x275) 0x274 2).1 b.free),
  λ b. omega (arith, b.large),
  λ b. none_yes _ refl ((fixed_is (freezing 0x272 0x276) 0x273).1 b.fixed),
)

-- five bytes behind a 1 that is frozen; not where the fifth of them is frozen, behind a 0, or where the 1 isn't frozen
parse_buffers : ParseAt 0x272 (freezing 0x272 0x278) × (ParseAt 0x272 (freezing 0x272 0x277) → ⊥) × (ParseAt 0x274 (freezing 0x274 0x280) → ⊥) × (ParseAt 0x272 (freezing 0x278 0x278) → ⊥)
unfolding story front tables any_below is_size_place merged_below
parse_buffers = (
  record { fixed = (fixed_is (freezing 0x272 0x278) 0x272).0 refl; large = omega arith; free = (piece_open (freezing 0x272 0x278) 0x273 5).0 refl },
  λ b. none_yes _ refl ((piece_open (freezing 0x272 0x277) 0x273 5).1 b.free),
  λ b. omega (arith, b.large),
  λ b. none_yes _ refl ((fixed_is (freezing 0x278 0x278) 0x272).1 b.fixed),
)

-- of one address each, which may be the same
abbrev one_frozen : FrozenStory
one_frozen = freezing 0x273 0x280

abbrev BuffersAt : Interval → Interval → Type 0
BuffersAt texts parses = AreBuffers interval_operations story (frozen_by one_frozen.ranges) texts parses

buffers : BuffersAt (between 0x273 0x273) (between 0x273 0x273) × (BuffersAt (between 0x273 0x274) (between 0x273 0x273) → ⊥) × (BuffersAt (between 0x273 0x273) (between 0x273 0x274) → ⊥)
unfolding between story front tables any_below is_size_place merged_below
buffers = (
  (
    record { fixed = (fixed_is one_frozen 0x273).0 refl; large = omega arith; free = (piece_open one_frozen 0x274 2).0 refl },
    record { fixed = (fixed_is one_frozen 0x273).0 refl; large = omega arith; free = (piece_open one_frozen 0x274 9).0 refl },
  ),
  λ b. b.0,
  λ b. b.1,
)
