-- Values of the definitions, computed.
use Rattle.std.proofs.Common.{◌≡◌, ◌⊎◌, ap, inl, inr, ℕ, zero, suc, ◌<◌, ◌≤◌, true, false, List, [], ◌∷◌, ◌++◌, replicate, length, take, refl, arith, lit<, lit≤}
use Rattle.std.specs.Prelude.{slice_set}
use Rattle.std.proofs.lemmas.Bool.{cases_lt}
use Rattle.zstory.specs.declared.load_error.LoadError.{LoadError}
use Rattle.zstory.specs.declared.load_error.LoadError.TheVariants.{TooShort, TooLong, NotVersion3, LengthWord, StaticBase, Globals, Objects, Dictionary, EntryLength, DictionaryOrder, FirstInstruction, OutOfMemory}
use Rattle.zstory.specs.Bytes.{AreBytes, byte_at, word_at, readable_end}
use Rattle.zstory.specs.Header as header
use Rattle.zstory.specs.Objects.{object_place, object_end, property_table, HasEntries, IsEntry, IsObjectCount}
use Rattle.zstory.specs.Dictionary.{separator_count, entry_length, entry_count, entry_place, dictionary_end, encoded_text, IsOrdered, HasFallingEntries}
use Rattle.zstory.specs.LoadedStory.{LoadedStory, IsSound, identity_of, file_sum, save_checksum, is_time_game}
use Rattle.zstory.specs.Loading.{stated_length, stated_part, with_flags_cleared, loaded_memory, IsLoaded}
use Rattle.zstory.proofs.Computed.{bytes_tested}
use Rattle.zstory.specs.Refusal.{number_of, IsTooShort, IsTooLong, HasOtherVersion, HasWrongLength, HasWrongBase, HasWrongGlobals, HasWrongDefaults, HasWrongDictionary, HasShortEntries, HasWrongStart, IsFlaw, IsCause, IsLowest, HasNone}

neither : {A B : Type 0} → (A → ⊥) → (B → ⊥) → A ⊎ B → ⊥
neither no_a no_b (inl a) = no_a a
neither no_a no_b (inr b) = no_b b

-- ---- two stories

abbrev repeated : ℕ → List ℕ → List ℕ
repeated zero xs = []
repeated (suc n) xs = xs ++ repeated n xs

-- 810 bytes without objects and words
plain : List ℕ
plain = 0x03 ∷ 0x00 ∷ 0x00 ∷ 0x01 ∷ 0x03 ∷ 0x24 ∷ 0x03 ∷ 0x24 ∷ 0x03 ∷ 0x20 ∷ 0x02 ∷ 0x20 ∷ 0x00 ∷ 0x40 ∷ 0x02 ∷ 0x5E
    ∷ 0x00 ∷ 0x00 ∷ 0x32 ∷ 0x36 ∷ 0x30 ∷ 0x31 ∷ 0x30 ∷ 0x31 ∷ 0x02 ∷ 0x5E ∷ 0x01 ∷ 0x95 ∷ 0x3A ∷ 0x7A ∷ replicate 576 0
    ++ repeated 96 (0x01 ∷ 0x8F ∷ []) ++ 0x94 ∷ 0xA5 ∷ 0x00 ∷ 0x04 ∷ 0x00 ∷ 0x00 ∷ 0xB2 ∷ 0x35 ∷ 0x51 ∷ 0xC6 ∷ 0x85 ∷ 0xBA ∷ []

-- 882 bytes with two objects and two words
peopled : List ℕ
peopled = 0x03 ∷ 0x00 ∷ 0x00 ∷ 0x01 ∷ 0x03 ∷ 0x70 ∷ 0x03 ∷ 0x70 ∷ 0x03 ∷ 0x5C ∷ 0x02 ∷ 0x20 ∷ 0x00 ∷ 0x40 ∷ 0x02 ∷ 0x9A
    ∷ 0x00 ∷ 0x00 ∷ 0x32 ∷ 0x36 ∷ 0x30 ∷ 0x31 ∷ 0x30 ∷ 0x31 ∷ 0x02 ∷ 0x9A ∷ 0x01 ∷ 0xB9 ∷ 0x4B ∷ 0x12 ∷ replicate 576 0
    ++ 0x00 ∷ 0x00 ∷ 0x00 ∷ 0x00 ∷ 0x00 ∷ 0x00 ∷ 0x02 ∷ 0x02 ∷ 0x70 ∷ 0x00 ∷ 0x00 ∷ 0x00 ∷ 0x00 ∷ 0x01 ∷ 0x00 ∷ 0x00 ∷ 0x02 ∷ 0x79
    ∷ 0x01 ∷ 0x98 ∷ 0xA5 ∷ 0x05 ∷ 0x07 ∷ 0x23 ∷ 0x12 ∷ 0x34 ∷ 0x00 ∷ 0x01 ∷ 0x9C ∷ 0xA5 ∷ 0x00 ∷ replicate 3 0 ++ 0x0A ∷ replicate 15 0 ++ 0x02 ∷ replicate 9 0
    ++ repeated 96 (0x01 ∷ 0xAD ∷ []) ++ 0x94 ∷ 0xA5 ∷ 0x01 ∷ 0x2C ∷ 0x07 ∷ 0x00 ∷ 0x02 ∷ 0x1B ∷ 0x25 ∷ 0x94 ∷ 0xA5 ∷ 0x00 ∷ 0x00 ∷ 0x00
    ∷ 0x46 ∷ 0x94 ∷ 0xC0 ∷ 0xA5 ∷ 0x00 ∷ 0x00 ∷ 0x00 ∷ 0x00 ∷ 0xBA ∷ 0x00 ∷ []

-- a header whose bytes are their places
counted : List ℕ
counted = 0 ∷ 1 ∷ 2 ∷ 3 ∷ 4 ∷ 5 ∷ 6 ∷ 7 ∷ 8 ∷ 9 ∷ 10 ∷ 11 ∷ 12 ∷ 13 ∷ 14 ∷ 15 ∷ 16 ∷ 17 ∷ 18 ∷ 19 ∷ 20 ∷ 21 ∷ 22 ∷ 23 ∷ 24 ∷ 25 ∷ 26 ∷ 27 ∷ 28 ∷ 29 ∷ 30 ∷ 31
    ∷ 32 ∷ 33 ∷ 34 ∷ 35 ∷ 36 ∷ 37 ∷ 38 ∷ 39 ∷ 40 ∷ 41 ∷ 42 ∷ 43 ∷ 44 ∷ 45 ∷ 46 ∷ 47 ∷ 48 ∷ 49 ∷ 50 ∷ 51 ∷ 52 ∷ 53 ∷ 54 ∷ 55 ∷ 56 ∷ 57 ∷ 58 ∷ 59 ∷ 60 ∷ 61 ∷ 62 ∷ 63 ∷ []

sizes : (length plain ≡ 810) × (length peopled ≡ 882)
unfolding plain peopled
sizes = (refl, refl)

-- ---- bytes

bytes : (byte_at (7 ∷ 8 ∷ []) 1 ≡ 8) × (byte_at (7 ∷ 8 ∷ []) 2 ≡ 0) × (word_at (1 ∷ 2 ∷ 3 ∷ []) 1 ≡ 0x0203) × (word_at (1 ∷ 2 ∷ 3 ∷ []) 2 ≡ 0x0300)
bytes = (refl, refl, refl, refl)

-- each by itself, though two of them make a greater word
small : AreBytes (1 ∷ 2 ∷ []) × (AreBytes (0 ∷ 256 ∷ []) → ⊥)
small = (bytes_tested (1 ∷ 2 ∷ []) refl, λ are. omega (arith, are 1))

-- memory is readable to its end, and no further than byte addresses reach
readable : (readable_end plain ≡ 810) × ((memory : List ℕ) → length memory ≡ 65536 → readable_end memory ≡ 65536) × ((memory : List ℕ) → length memory ≡ 131072 → readable_end memory ≡ 65536)
unfolding plain
readable = (refl, λ memory e. omega (arith, e), λ memory e. omega (arith, e))

-- ---- the header

numbers : (header.version plain ≡ 3) × (header.release plain ≡ 1) × (header.first_instruction plain ≡ 0x324) × (header.dictionary plain ≡ 0x320) × (header.object_table plain ≡ 0x220) × (header.globals plain ≡ 0x40) × (header.static_base plain ≡ 0x25E) × (header.abbreviations plain ≡ 0x25E) × (header.length_word plain ≡ 0x195) × (header.checksum plain ≡ 0x3A7A)
unfolding plain
numbers = (refl, refl, refl, refl, refl, refl, refl, refl, refl, refl)

of_peopled : (header.release peopled ≡ 1) × (header.first_instruction peopled ≡ 0x370) × (header.dictionary peopled ≡ 0x35C) × (header.object_table peopled ≡ 0x220) × (header.globals peopled ≡ 0x40) × (header.static_base peopled ≡ 0x29A) × (header.abbreviations peopled ≡ 0x29A) × (header.length_word peopled ≡ 0x1B9) × (header.checksum peopled ≡ 0x4B12)
unfolding peopled
of_peopled = (refl, refl, refl, refl, refl, refl, refl, refl, refl)

of_counted : (header.version counted ≡ 0) × (header.flags counted ≡ 1) × (header.release counted ≡ 0x0203) × (header.first_instruction counted ≡ 0x0607) × (header.dictionary counted ≡ 0x0809) × (header.object_table counted ≡ 0x0A0B) × (header.globals counted ≡ 0x0C0D) × (header.static_base counted ≡ 0x0E0F) × (header.abbreviations counted ≡ 0x1819) × (header.length_word counted ≡ 0x1A1B) × (header.checksum counted ≡ 0x1C1D)
unfolding counted
of_counted = (refl, refl, refl, refl, refl, refl, refl, refl, refl, refl, refl)

abbrev january : List ℕ
january = 0x32 ∷ 0x36 ∷ 0x30 ∷ 0x31 ∷ 0x30 ∷ 0x31 ∷ []

serials : (header.serial plain ≡ january) × (header.serial peopled ≡ january) × (header.serial counted ≡ 0x12 ∷ 0x13 ∷ 0x14 ∷ 0x15 ∷ 0x16 ∷ 0x17 ∷ [])
unfolding plain peopled counted
serials = (refl, refl, refl)

abbrev with_flags : ℕ → List ℕ
with_flags flags = slice_set plain 0x01 flags

-- bit 1 alone decides
time_games : (header.is_time_game plain ≡ false) × (header.is_time_game (with_flags 0x02) ≡ true) × (header.is_time_game (with_flags 0x06) ≡ true) × (header.is_time_game (with_flags 0xFD) ≡ false) × (header.flags (with_flags 0xFD) ≡ 0xFD)
unfolding plain
time_games = (refl, refl, refl, refl, refl)

-- ---- the dictionary

dictionaries : (separator_count peopled ≡ 1) × (entry_length peopled ≡ 7) × (entry_count peopled ≡ 2) × (entry_place peopled 0 ≡ 0x361) × (entry_place peopled 1 ≡ 0x368) × (dictionary_end peopled ≡ 0x36F) × (dictionary_end plain ≡ 0x324)
unfolding plain peopled
dictionaries = (refl, refl, refl, refl, refl, refl, refl)

texts : (encoded_text peopled 0 ≡ 0x1B2594A5) × (encoded_text peopled 1 ≡ 0x4694C0A5)
unfolding peopled
texts = (refl, refl)

ordered : IsOrdered peopled
ordered zero some = omega (arith, texts.0, texts.1)
ordered (suc k) some = absurd (omega (arith, some, dictionaries.2))

-- the first word begins with 47 in place of 1B
falling : (encoded_text (slice_set peopled 0x361 0x47) 0 ≡ 0x472594A5) × HasFallingEntries (slice_set peopled 0x361 0x47)
unfolding peopled
falling = (refl, (0, lit< tt, lit< tt))

-- ---- objects

entries : (object_place peopled 1 ≡ 0x25E) × (object_place peopled 2 ≡ 0x267) × (object_end peopled 2 ≡ 0x270) × (property_table peopled 1 ≡ 0x270) × (property_table peopled 2 ≡ 0x279) × (header.static_base peopled ≡ 0x29A)
unfolding peopled
entries = (refl, refl, refl, refl, refl, refl)

-- what holds of the first two
of_two : (P : ℕ → Type 0) → P 1 → P 2 → (object : ℕ) → 1 ≤ object → object ≤ 2 → P object
of_two P one two zero some few = absurd (omega (arith, some))
of_two P one two (suc zero) some few = one
of_two P one two (suc (suc zero)) some few = two
of_two P one two (suc (suc (suc k))) some few = absurd (omega (arith, few))

-- the entry of a first object ends at or before its table, and that of a second where the first one's table begins
first_entry : IsEntry peopled 1
first_entry = record { dynamic = omega (arith, entries.0, entries.5); before_tables = λ other some few. of_two (λ k. object_end peopled 1 ≤ property_table peopled k) (omega (arith, entries.0, entries.3)) (omega (arith, entries.0, entries.4)) other some (omega (arith, few)) }

second_entry : IsEntry peopled 2
second_entry = record { dynamic = omega (arith, entries.2, entries.5); before_tables = λ other some few. of_two (λ k. object_end peopled 2 ≤ property_table peopled k) (omega (arith, entries.2, entries.3)) (omega (arith, entries.2, entries.4)) other some few }

-- a third one's would end behind it
no_third : IsEntry peopled 3 → ⊥
no_third entry = let table = entry.before_tables 1 (omega arith) (omega arith) in omega (arith, table, entries.0, entries.3)

two_objects : IsObjectCount peopled 2
two_objects = record {
  within = omega arith;
  entries = of_two (IsEntry peopled) first_entry second_entry;
  greatest = λ other few has. elim (cases_lt 2 other) [ inl more ↦ absurd (no_third (has 3 (omega arith) (omega (arith, more)))) | inr within ↦ within ];
}

-- static memory begins where a first entry would
no_object : IsObjectCount plain 0
no_object = record {
  within = omega arith;
  entries = λ object some few. absurd (omega (arith, some, few));
  greatest = λ other few has. elim (cases_lt 0 other) [ inl more ↦ absurd (let entry = has 1 (omega arith) (omega (arith, more)) in omega (arith, entry.dynamic, numbers.4, numbers.6)) | inr within ↦ within ];
}

-- an entry may end where static memory begins, and not behind it
last_dynamic : IsEntry (slice_set plain 0x0F 0x67) 1 × (IsEntry (slice_set plain 0x0F 0x66) 1 → ⊥)
unfolding plain
last_dynamic = (record { dynamic = lit≤ tt; before_tables = λ other some few. one other some few }, λ entry. omega (arith, entry.dynamic))
  where
    one : (other : ℕ) → 1 ≤ other → other ≤ 1 → object_end (slice_set plain 0x0F 0x67) 1 ≤ property_table (slice_set plain 0x0F 0x67) other
    one zero some few = absurd (omega (arith, some))
    one (suc zero) some few = lit≤ tt
    one (suc (suc k)) some few = absurd (omega (arith, few))

-- no more than a byte can number
most_objects : (memory : List ℕ) → IsObjectCount memory 256 → ⊥
most_objects memory count = omega (arith, count.within)

-- and as many where all have an entry
all_objects : (memory : List ℕ) → HasEntries memory 255 → IsObjectCount memory 255
all_objects memory has = record { within = omega arith; entries = has; greatest = λ other few _. few }

one_count_alone : (IsObjectCount peopled 1 → ⊥) × (IsObjectCount peopled 3 → ⊥)
one_count_alone = (λ count. omega (arith, count.greatest 2 (omega arith) two_objects.entries), λ count. no_third (count.entries 3 (omega arith) (omega arith)))

-- ---- loading

-- the header states the length, or leaves it open
lengths : (stated_length plain ≡ 810) × (stated_length (plain ++ 0x55 ∷ []) ≡ 810) × (stated_length (slice_set (slice_set plain 0x1A 0) 0x1B 0) ≡ 810)
unfolding plain
lengths = (refl, refl, refl)

parts : (stated_part (plain ++ 0x55 ∷ 0x66 ∷ []) ≡ plain) × (stated_part plain ≡ plain)
unfolding plain
parts = (refl, refl)

abbrev stating : ℕ → List ℕ
stating words = slice_set (slice_set plain 0x1A 0) 0x1B words

-- a file that states the length of a header alone
header_alone : (stated_length (stating 32) ≡ 64) × (stated_part (stating 32) ≡ take 64 (stating 32)) × (stated_length (stating 31) ≡ 62)
unfolding plain
header_alone = (refl, refl, refl)

-- of all flags the three are cleared
flags : (with_flags_cleared (1 ∷ 0xFF ∷ 0xFF ∷ []) ≡ 1 ∷ 0x8F ∷ 0xFF ∷ []) × (with_flags_cleared (1 ∷ 0x70 ∷ []) ≡ 1 ∷ 0 ∷ []) × (loaded_memory (with_flags 0x32) ≡ with_flags 0x02)
unfolding plain
flags = (refl, refl, refl)

-- and are in no story
flags_gone : IsLoaded (with_flags 0x32) (record { memory = with_flags 0x32; objects = 0 }) → ⊥
unfolding plain
flags_gone it = let e : 0x32 ≡ 0x02 = ap (λ (m : List ℕ). byte_at m 1) it.memory in omega (arith, e)

loaded : IsLoaded (plain ++ 0x55 ∷ []) (record { memory = plain; objects = 0 }) × IsLoaded peopled (record { memory = peopled; objects = 2 })
unfolding plain peopled
loaded = (record { memory = refl; objects = no_object }, record { memory = refl; objects = two_objects })

-- what loading has established of one
sound : IsSound peopled
unfolding peopled
sound = record {
  bytes = bytes_tested peopled refl;
  least_length = omega (arith, sizes.1);
  greatest_length = omega (arith, sizes.1);
  version = refl;
  static_base_above = omega (arith, of_peopled.5);
  static_base_within = omega (arith, sizes.1, of_peopled.5);
  globals_above = omega (arith, of_peopled.4);
  globals_within = omega (arith, of_peopled.4, of_peopled.5);
  defaults_above = omega (arith, of_peopled.3);
  defaults_within = omega (arith, of_peopled.3, of_peopled.5);
  dictionary_above = omega (arith, of_peopled.2, of_peopled.5);
  dictionary_within = omega (arith, sizes.1, dictionaries.5);
  entries_long = omega (arith, dictionaries.1);
  entries_ordered = ordered;
  first_instruction_above = omega (arith, of_peopled.1);
  first_instruction_within = omega (arith, sizes.1, of_peopled.1);
}

-- each bound of it, one beyond
beyond :
    (IsSound (take 63 plain) → ⊥)
    × ((memory : List ℕ) → length memory ≡ 131073 → IsSound memory → ⊥)
    × (IsSound (slice_set plain 0x00 4) → ⊥)
    × (IsSound (slice_set (slice_set plain 0x0E 0) 0x0F 63) → ⊥)
    × (IsSound (slice_set (slice_set plain 0x0E 0x03) 0x0F 0x2B) → ⊥)
    × (IsSound (slice_set plain 0x0D 63) → ⊥)
    × (IsSound (slice_set plain 0x0D 127) → ⊥)
    × (IsSound (slice_set (slice_set plain 0x0A 0) 0x0B 63) → ⊥)
    × (IsSound (slice_set plain 0x0B 0x21) → ⊥)
unfolding plain
beyond = (
  λ sound. omega (arith, sound.least_length),
  λ memory e sound. omega (arith, e, sound.greatest_length),
  λ sound. omega (arith, sound.version),
  λ sound. omega (arith, sound.static_base_above),
  λ sound. omega (arith, sound.static_base_within),
  λ sound. omega (arith, sound.globals_above),
  λ sound. omega (arith, sound.globals_within),
  λ sound. omega (arith, sound.defaults_above),
  λ sound. omega (arith, sound.defaults_within),
)

beyond_too :
    (IsSound (slice_set (slice_set plain 0x08 0x02) 0x09 0x5D) → ⊥)
    × (IsSound (take 803 plain) → ⊥)
    × (IsSound (slice_set plain 0x321 3) → ⊥)
    × (IsSound (slice_set peopled 0x361 0x47) → ⊥)
    × (IsSound (slice_set (slice_set plain 0x06 0) 0x07 63) → ⊥)
    × (IsSound (slice_set plain 0x07 0x2A) → ⊥)
    × (IsSound (slice_set plain 0x329 256) → ⊥)
unfolding plain peopled
beyond_too = (
  λ sound. omega (arith, sound.dictionary_above),
  λ sound. omega (arith, sound.dictionary_within),
  λ sound. omega (arith, sound.entries_long),
  λ sound. omega (arith, sound.entries_ordered 0 (lit< tt)),
  λ sound. omega (arith, sound.first_instruction_above),
  λ sound. omega (arith, sound.first_instruction_within),
  λ sound. omega (arith, sound.bytes 0x329),
)

-- but not of one that ends where its code begins
unsound : IsSound (take 804 plain) → ⊥
unfolding plain
unsound sound = omega (arith, sound.first_instruction_within)

-- ---- what a loaded story says of itself

abbrev story : List ℕ → LoadedStory
story memory = record { memory = memory; objects = 0 }

without_checksum : List ℕ
without_checksum = slice_set (slice_set plain 0x1C 0) 0x1D 0

identities :
    (identity_of (story plain) ≡ record { release = 1; serial = january; checksum = 0x3A7A; length = 810 })
    × (identity_of (story peopled) ≡ record { release = 1; serial = january; checksum = 0x4B12; length = 882 })
    × (identity_of (story counted) ≡ record { release = 0x0203; serial = 0x12 ∷ 0x13 ∷ 0x14 ∷ 0x15 ∷ 0x16 ∷ 0x17 ∷ []; checksum = 0x1C1D; length = 64 })
unfolding plain peopled counted
identities = (refl, refl, refl)

-- the bytes behind the header sum up to 14,970 and to 19,218
sums : (file_sum (story plain) ≡ 14970) × (file_sum (story peopled) ≡ 19218) × (save_checksum (story plain) ≡ 14970) × (save_checksum (story without_checksum) ≡ 14970) × (save_checksum (story (slice_set plain 0x1D 0)) ≡ 0x3A00)
unfolding plain peopled without_checksum
sums = (refl, refl, refl, refl, refl)

-- what the status line shows is told by bit 1 of Flags 1, and by no other
timed : (is_time_game (story (slice_set plain 1 0x02)) ≡ true) × (is_time_game (story (slice_set plain 1 0x06)) ≡ true) × (is_time_game (story plain) ≡ false) × (is_time_game (story (slice_set plain 1 0xFD)) ≡ false)
unfolding plain
timed = (refl, refl, refl, refl)

-- a sum of 65,790 is 254
wrapped : file_sum (story (replicate 64 1 ++ replicate 258 255)) ≡ 254
wrapped = refl

-- ---- refusals

refusals : (number_of TooShort ≡ 1) × (number_of TooLong ≡ 2) × (number_of NotVersion3 ≡ 3) × (number_of LengthWord ≡ 4) × (number_of StaticBase ≡ 5) × (number_of Globals ≡ 6) × (number_of Objects ≡ 7) × (number_of Dictionary ≡ 8) × (number_of EntryLength ≡ 9) × (number_of DictionaryOrder ≡ 10) × (number_of FirstInstruction ≡ 11) × (number_of OutOfMemory ≡ 12)
refusals = (refl, refl, refl, refl, refl, refl, refl, refl, refl, refl, refl, refl)

-- where no cause holds, neither the first nor the last does
none_holds : (causes : LoadError → Type 0) → HasNone causes → (causes TooShort → ⊥) × (causes FirstInstruction → ⊥)
none_holds causes none = (none TooShort (omega arith), none FirstInstruction (omega arith))

too_short : IsTooShort (take 63 plain) × (IsTooShort (take 64 plain) → ⊥)
unfolding plain
too_short = (lit< tt, λ short. omega (arith, short))

too_long : ((file : List ℕ) → length file ≡ 131073 → IsTooLong file) × ((file : List ℕ) → length file ≡ 131072 → IsTooLong file → ⊥)
too_long = (λ file e. omega (arith, e), λ file e long. omega (arith, e, long))

other_version : HasOtherVersion (slice_set plain 0 5) × (HasOtherVersion plain → ⊥)
unfolding plain
other_version = (λ e. omega (arith, e), λ other. other refl)

-- longer than the file, and shorter than a header
wrong_lengths : HasWrongLength (take 809 plain) × HasWrongLength (slice_set (slice_set plain 0x1A 0) 0x1B 31)
unfolding plain
wrong_lengths = ((λ e. omega (arith, e), inr (lit< tt)), (λ e. omega (arith, e), inl (lit< tt)))

-- as long as the file, and as long as a header
right_lengths : (HasWrongLength plain → ⊥) × (HasWrongLength (stating 32) → ⊥)
unfolding plain
right_lengths = (λ wrong. neither (λ low. omega (arith, low)) (λ high. omega (arith, high)) wrong.1, λ wrong. neither (λ low. omega (arith, low)) (λ high. omega (arith, high)) wrong.1)

-- a length of 0 is left open; the least one that is stated is 2
open_length : (HasWrongLength (stating 0) → ⊥) × HasWrongLength (stating 1)
unfolding plain
open_length = (λ wrong. wrong.0 refl, (λ e. omega (arith, e), inl (lit< tt)))

-- each place at its bounds, and one beyond: where static memory begins
bases : (HasWrongBase (slice_set (slice_set plain 0x0E 0) 0x0F 64) → ⊥) × HasWrongBase (slice_set (slice_set plain 0x0E 0) 0x0F 63) × (HasWrongBase (slice_set (slice_set plain 0x0E 0x03) 0x0F 0x2A) → ⊥) × HasWrongBase (slice_set (slice_set plain 0x0E 0x03) 0x0F 0x2B)
unfolding plain
bases = (neither (λ low. omega (arith, low)) (λ high. omega (arith, high)), inl (lit< tt), neither (λ low. omega (arith, low)) (λ high. omega (arith, high)), inr (lit< tt))

-- the globals, from 64 to static memory
globals_placed : (HasWrongGlobals plain → ⊥) × (HasWrongGlobals (slice_set plain 0x0D 126) → ⊥) × HasWrongGlobals (slice_set plain 0x0D 127)
unfolding plain
globals_placed = (neither (λ low. omega (arith, low)) (λ high. omega (arith, high)), neither (λ low. omega (arith, low)) (λ high. omega (arith, high)), inr (lit< tt))

-- the property defaults; those of this story end where static memory begins
defaults_placed : (HasWrongDefaults (slice_set (slice_set plain 0x0A 0) 0x0B 64) → ⊥) × HasWrongDefaults (slice_set (slice_set plain 0x0A 0) 0x0B 63) × (HasWrongDefaults plain → ⊥) × HasWrongDefaults (slice_set plain 0x0B 0x21)
unfolding plain
defaults_placed = (neither (λ low. omega (arith, low)) (λ high. omega (arith, high)), inl (lit< tt), neither (λ low. omega (arith, low)) (λ high. omega (arith, high)), inr (lit< tt))

-- the dictionary: at static memory's first byte and the one before, and up to the last byte and one more
dictionary_placed : (HasWrongDictionary (slice_set (slice_set plain 0x0E 0x03) 0x0F 0x20) → ⊥) × HasWrongDictionary (slice_set (slice_set plain 0x0E 0x03) 0x0F 0x21) × (HasWrongDictionary (take 804 plain) → ⊥) × HasWrongDictionary (take 803 plain)
unfolding plain
dictionary_placed = (neither (λ low. omega (arith, low)) (λ high. omega (arith, high)), inl (lit< tt), neither (λ low. omega (arith, low)) (λ high. omega (arith, high)), inr (lit< tt))

-- equal texts don't fall: here the second word is written as the first is
equal_texts : List ℕ
equal_texts = slice_set (slice_set (slice_set (slice_set peopled 0x368 0x1B) 0x369 0x25) 0x36A 0x94) 0x36B 0xA5

equals : (encoded_text equal_texts 0 ≡ encoded_text equal_texts 1) × (entry_count equal_texts ≡ 2)
unfolding equal_texts peopled
equals = (refl, refl)

equal_entries : HasFallingEntries equal_texts → ⊥
equal_entries (zero, some, less) = omega (arith, less, equals.0)
equal_entries (suc k, some, less) = omega (arith, some, equals.1)

equal_ordered : IsOrdered equal_texts
equal_ordered zero some = omega (arith, equals.0)
equal_ordered (suc k) some = absurd (omega (arith, some, equals.1))

first_places : HasWrongStart (slice_set (slice_set plain 0x06 0) 0x07 63) × (HasWrongStart (slice_set (slice_set plain 0x06 0) 0x07 64) → ⊥)
unfolding plain
first_places = (inl (lit< tt), neither (λ low. omega (arith, low)) (λ high. omega (arith, high)))

other_versions : HasOtherVersion (slice_set plain 0 2) × HasOtherVersion (slice_set plain 0 4)
unfolding plain
other_versions = (λ e. omega (arith, e), λ e. omega (arith, e))

misplaced : HasWrongBase (slice_set plain 0x0E 0x03) × HasWrongGlobals (slice_set plain 0x0D 0x3F) × HasWrongDefaults (slice_set plain 0x0A 0x00) × HasWrongDictionary (slice_set plain 0x322 0xFF) × HasWrongDictionary (slice_set plain 0x08 0x02)
unfolding plain
misplaced = (inr (lit< tt), inl (lit< tt), inl (lit< tt), inr (lit< tt), inl (lit< tt))

short_entries : HasShortEntries (slice_set plain 0x321 3) × (HasShortEntries plain → ⊥)
unfolding plain
short_entries = (lit< tt, λ short. omega (arith, short))

-- the last byte can be the first instruction, and the place behind it can't
wrong_start : HasWrongStart (slice_set plain 0x07 0x2A) × (HasWrongStart (slice_set plain 0x07 0x29) → ⊥)
unfolding plain
wrong_start = (inr (lit≤ tt), λ wrong. elim wrong [ inl low ↦ omega (arith, low) | inr high ↦ omega (arith, high) ])

-- each is a cause of its own refusal; want of memory is none of a story, and a version none of a stated part
told :
    IsCause (take 63 plain) TooShort × ((file : List ℕ) → length file ≡ 131073 → IsCause file TooLong) × IsFlaw (slice_set (slice_set plain 0x0E 0) 0x0F 63) StaticBase × IsFlaw (slice_set plain 0x0D 127) Globals
    × IsFlaw (slice_set plain 0x0B 0x21) Objects × IsFlaw (slice_set plain 0x08 0x02) Dictionary × IsFlaw (slice_set plain 0x321 3) EntryLength × IsFlaw plain OutOfMemory × (IsFlaw plain NotVersion3 → ⊥)
told = (too_short.0, too_long.0, bases.1, globals_placed.2, defaults_placed.3, misplaced.4, short_entries.0, tt, λ is. is)

-- nothing speaks against the story
none : HasNone (IsCause plain)
unfolding plain
none TooShort below cause = omega (arith, cause)
none TooLong below cause = omega (arith, cause)
none NotVersion3 below cause = cause refl
none LengthWord below cause = elim cause.1 [ inl low ↦ omega (arith, low) | inr high ↦ omega (arith, high) ]
none StaticBase below cause = elim cause [ inl low ↦ omega (arith, low) | inr high ↦ omega (arith, high) ]
none Globals below cause = elim cause [ inl low ↦ omega (arith, low) | inr high ↦ omega (arith, high) ]
none Objects below cause = elim cause [ inl low ↦ omega (arith, low) | inr high ↦ omega (arith, high) ]
none Dictionary below cause = elim cause [ inl low ↦ omega (arith, low) | inr high ↦ omega (arith, high) ]
none EntryLength below cause = omega (arith, cause)
none DictionaryOrder below cause = omega (arith, cause.1)
none FirstInstruction below cause = elim cause [ inl low ↦ omega (arith, low) | inr high ↦ omega (arith, high) ]
none OutOfMemory below cause = omega (arith, below)

-- a file that is cut off is refused for its length, before what is missing is looked at
cut_off : IsLowest (IsCause (take 809 plain)) LengthWord
unfolding plain
cut_off = (wrong_lengths.0, lower)
  where
    lower : (error : LoadError) → number_of error < 4 → IsCause (take 809 plain) error → ⊥
    lower TooShort below cause = omega (arith, cause)
    lower TooLong below cause = omega (arith, cause)
    lower NotVersion3 below cause = cause refl
    lower _ below cause = omega (arith, below)
