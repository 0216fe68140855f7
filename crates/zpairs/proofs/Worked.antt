-- Values of the definitions, computed.
use Rattle.std.proofs.Common.{◌≡◌, ℕ, ◌<◌, ◌≤◌, Bool, true, false, List, [], ◌∷◌, ◌++◌, replicate, Some, None, refl, sym, subst, arith}
use Rattle.zdomain.specs.Interval.{interval_operations}
use Rattle.zdomain.specs.IntervalLaw.{interval_sound}
use Rattle.zdomain.specs.declared.interval.Interval.{Interval}
use Rattle.zstory.specs.LoadedStory.{LoadedStory}
use Rattle.zcert.specs.declared.parts.Range.{Range}
use Rattle.zplace.specs.Bytes.{IsOpen}
use Rattle.zobj.specs.declared.property.Property.{Property}
use Rattle.zobj.specs.declared.answers.PropertyQuestion.TheVariants.{Value, Address, Next}
use Rattle.zobj.specs.Properties.{first_properties, property_of}
use Rattle.zpairs.specs.declared.cell.Test.TheVariants.{Answered, Put, Open}
use Rattle.zdomain.specs.Marks.{is_marked}
use Rattle.zpairs.specs.Frozen.{FrozenStory, frozen_by}
use Rattle.zdomain.specs.declared.values.Values.{Values}
use Rattle.zdomain.specs.Values.{values_operations, packed}
use Rattle.zdomain.specs.Few.{turned, gathered, with_words, rises_behind, last_behind, place_in, is_scattered, words_from}
use Rattle.zpairs.specs.Ends.{exactly, a_byte, any_word, no_word, joined, value_ends, address_ends}
use Rattle.zpairs.specs.Blocks.{object_cell, object_in, place_cell}
use Rattle.zpairs.specs.Fixed.{any_below, is_closed, is_size_place}
use Rattle.zpairs.specs.Cells.{absent_passes, has_none, cell_of, cell_at, no_cell, merged, passes}
use Rattle.zpairs.specs.Pairs.{AreAnswered, HaveOpenData, CanBePut, EachPair, may_exceed, is_asked, ends_below, hull, columns, pairs, answers}
use Rattle.zpairs.proofs.Telling.{closed_is}

-- ---- the order of signed readings

-- -32768, -1, 0, 1 and 32767, and there and back
order : (turned 0x8000 ≡ 0) × (turned 0xFFFF ≡ 0x7FFF) × (turned 0 ≡ 0x8000) × (turned 1 ≡ 0x8001) × (turned 0x7FFF ≡ 0xFFFF) × (turned (turned 0x8001) ≡ 0x8001)
order = (refl, refl, refl, refl, refl, refl)

-- the words below 256, and -1 with 1: the least by sign is no unsigned least
bytes : (exactly 0 ≡ record { least = 0x8000; greatest = 0x8000 }) × (joined (exactly 0) (exactly 255) ≡ a_byte) × (joined (exactly 1) (exactly 0xFFFF) ≡ record { least = 0x7FFF; greatest = 0x8001 }) × (joined (exactly 0x8000) (exactly 0x7FFF) ≡ any_word) × (joined no_word (exactly 7) ≡ exactly 7) × (joined no_word (exactly 0x7FFF) ≡ exactly 0x7FFF) × (joined no_word (exactly 0x8000) ≡ exactly 0x8000)
bytes = (refl, refl, refl, refl, refl, refl, refl)

-- ---- ranges, both ends included

ranges : List Range
ranges = record { first = 4; last = 5 } ∷ record { first = 9; last = 9 } ∷ []

frozen_places : (frozen_by ranges 3 ≡ false) × (frozen_by ranges 4 ≡ true) × (frozen_by ranges 5 ≡ true) × (frozen_by ranges 6 ≡ false) × (frozen_by ranges 9 ≡ true) × (frozen_by ranges 10 ≡ false)
unfolding ranges
frozen_places = (refl, refl, refl, refl, refl, refl)

runs_of_none : (has_none (frozen_by ranges) 6 3 ≡ true) × (has_none (frozen_by ranges) 6 4 ≡ false) × (has_none (frozen_by ranges) 5 1 ≡ false) × (has_none (frozen_by ranges) 5 0 ≡ true)
unfolding has_none ranges
runs_of_none = (refl, refl, refl, refl)

-- ---- marks, eight to a byte from the lowest bit on

marked : (is_marked (0x81 ∷ 0x02 ∷ []) 0 ≡ true) × (is_marked (0x81 ∷ 0x02 ∷ []) 1 ≡ false) × (is_marked (0x81 ∷ 0x02 ∷ []) 7 ≡ true) × (is_marked (0x81 ∷ 0x02 ∷ []) 8 ≡ false) × (is_marked (0x81 ∷ 0x02 ∷ []) 9 ≡ true) × (is_marked (0x81 ∷ 0x02 ∷ []) 16 ≡ false)
marked = (refl, refl, refl, refl, refl, refl)

-- ---- values of data

ten : List ℕ
ten = 0x10 ∷ 0x11 ∷ 0x12 ∷ 0x13 ∷ 0xFF ∷ 0x15 ∷ 0x16 ∷ 0x17 ∷ 0x18 ∷ 0xFE ∷ []

data_at : ℕ → ℕ → Property
data_at place length = record { number = 1; place = place; length = length }

-- a byte that no play changes is known, and another is any byte; a word is known where both of its bytes are, and longer data never
values : (value_ends (frozen_by ranges) ten 1 (Some (data_at 9 1)) ≡ exactly 0xFE) × (value_ends (frozen_by ranges) ten 1 (Some (data_at 3 1)) ≡ a_byte) × (value_ends (frozen_by ranges) ten 1 (Some (data_at 4 2)) ≡ exactly 0xFF15) × (value_ends (frozen_by ranges) ten 1 (Some (data_at 5 2)) ≡ any_word) × (value_ends (frozen_by ranges) ten 1 (Some (data_at 3 2)) ≡ any_word) × (value_ends (frozen_by ranges) ten 1 (Some (data_at 4 3)) ≡ any_word)
unfolding ranges ten data_at
values = (refl, refl, refl, refl, refl, refl)

addresses : (address_ends (Some (data_at 9 1)) ≡ exactly 9) × (address_ends None ≡ exactly 0)
unfolding data_at
addresses = (refl, refl)

-- ---- a story with two objects

-- Up to the entries at 0x25E, with the low byte of the static base. The first two globals, at 0x40, are `00 05 07 00`; the default of
-- property 3 is -2, the word at 0x224, and that of property 7 is 300, at 0x22C
front : ℕ → List ℕ
front base = 0x03 ∷ 0x00 ∷ 0x00 ∷ 0x01 ∷ 0x03 ∷ 0x70 ∷ 0x03 ∷ 0x70 ∷ 0x03 ∷ 0x5C ∷ 0x02 ∷ 0x20 ∷ 0x00 ∷ 0x40 ∷ 0x02 ∷ base
    ∷ replicate 48 0 ++ 0x00 ∷ 0x05 ∷ 0x07 ∷ 0x00 ∷ replicate 476 0 ++ 0x00 ∷ 0x00 ∷ 0x00 ∷ 0x00 ∷ 0xFF ∷ 0xFE ∷ 0x00 ∷ 0x00 ∷ 0x00 ∷ 0x00 ∷ 0x00 ∷ 0x00 ∷ 0x01 ∷ 0x2C ∷ replicate 48 0

-- object 1, named `a`, has properties 5, of one byte at 0x274, 3, of two at 0x276, and 2, of three at 0x279; object 2 has 5, at
-- 0x281
tables : List ℕ
tables = 0x01 ∷ 0x98 ∷ 0xA5 ∷ 0x05 ∷ 0x07 ∷ 0x23 ∷ 0x12 ∷ 0x34 ∷ 0x42 ∷ 0x01 ∷ 0x02 ∷ 0x03 ∷ 0x00 ∷ 0x01 ∷ 0x9C ∷ 0xA5 ∷ 0x05 ∷ 0x09 ∷ 0x00 ∷ []

-- static memory begins behind all tables, or elsewhere
story_above : ℕ → LoadedStory
story_above base = record { memory = front base ++ replicate 7 0 ++ 0x02 ∷ 0x70 ∷ replicate 7 0 ++ 0x02 ∷ 0x7D ∷ tables; objects = 2 }

story : LoadedStory
story = story_above 0x9A

-- the data of property 3 are frozen, and the byte of object 2's property 5
told : FrozenStory
told = record { story = story; ranges = record { first = 0x276; last = 0x277 } ∷ record { first = 0x281; last = 0x281 } ∷ [] }

-- objects are numbered from 1, and a block has 16 of them
numbered : (object_in 0 0 ≡ 1) × (object_in 2 3 ≡ 36) × (place_cell told 2 5 3 ≡ object_cell told 35 5) × (object_cell told 35 5 ≡ no_cell) × (object_cell told 0 5 ≡ cell_at told 1 5)
unfolding told story story_above
numbered = (refl, refl, refl, refl, refl)

found : (property_of story.memory 1 5 ≡ Some (record { number = 5; place = 0x274; length = 1 })) × (property_of story.memory 1 3 ≡ Some (record { number = 3; place = 0x276; length = 2 })) × (property_of story.memory 1 2 ≡ Some (record { number = 2; place = 0x279; length = 3 })) × (property_of story.memory 2 5 ≡ Some (record { number = 5; place = 0x281; length = 1 })) × (property_of story.memory 2 3 ≡ None)
unfolding story story_above front tables first_properties
found = (refl, refl, refl, refl, refl)

-- what is known of a pair, and of both objects with a number
cells : (cell_at told 1 3 ≡ record { has = true; short = true; is_open = false; values = exactly 0x1234; addresses = exactly 0x276 }) × (cell_at told 2 3 ≡ record { has = false; short = true; is_open = true; values = exactly 0xFFFE; addresses = exactly 0 }) × (cell_at told 1 2 ≡ record { has = true; short = false; is_open = true; values = any_word; addresses = exactly 0x279 }) × (cell_at told 1 0 ≡ record { has = false; short = true; is_open = true; values = no_word; addresses = exactly 0 }) × (cell_at told 1 32 ≡ cell_at told 1 0)
unfolding told story story_above front tables first_properties has_none any_below is_size_place
cells = (refl, refl, refl, refl, refl)

both_cells :
    (merged (cell_at told 1 3) (cell_at told 2 3) ≡ record { has = false; short = true; is_open = false; values = record { least = 0x7FFE; greatest = 0x9234 }; addresses = record { least = 0x8000; greatest = 0x8276 } })
    × ((merged (cell_at told 1 2) (cell_at told 1 3)).short ≡ false) × ((merged (cell_at told 2 3) (cell_at told 1 3)).has ≡ false)
unfolding told story story_above front tables first_properties has_none any_below is_size_place
both_cells = (refl, refl, refl)

-- what is known of none says nothing of others
none_beside : (merged no_cell (cell_at told 1 3) ≡ cell_at told 1 3) × (merged no_cell (cell_at told 1 2) ≡ cell_at told 1 2)
unfolding told story story_above front tables first_properties has_none any_below is_size_place
none_beside = (refl, refl)

-- of what no object has, an address is told, and nothing of it is frozen
absent : (absent_passes (Answered Value) ≡ false) × (absent_passes (Answered Address) ≡ true) × (absent_passes (Answered Next) ≡ false) × (absent_passes Put ≡ false) × (absent_passes Open ≡ true)
absent = (refl, refl, refl, refl, refl)

tests : (passes (Answered Value) 1 no_cell ≡ true) × (passes (Answered Value) 31 no_cell ≡ true) × (passes (Answered Value) 0 no_cell ≡ false) × (passes (Answered Value) 32 no_cell ≡ false) × (passes (Answered Next) 0 (cell_of (frozen_by ranges) (frozen_by ranges) ten 0 None) ≡ true) × (passes (Answered Next) 1 (cell_of (frozen_by ranges) (frozen_by ranges) ten 1 None) ≡ false) × (passes Put 1 (cell_of (frozen_by ranges) (frozen_by ranges) ten 1 None) ≡ false) × (passes Open 1 (cell_of (frozen_by ranges) (frozen_by ranges) ten 1 None) ≡ true) × (passes (Answered Address) 40 (cell_of (frozen_by ranges) (frozen_by ranges) ten 40 None) ≡ true)
tests = (refl, refl, refl, refl, refl, refl, refl, refl, refl)

-- ---- intervals

between : ℕ → ℕ → Interval
between = interval_operations.between

asked_numbers :
    (is_asked interval_operations (between 3 5) 2 ≡ false) × (is_asked interval_operations (between 3 5) 3 ≡ true) × (is_asked interval_operations (between 3 5) 5 ≡ true) × (is_asked interval_operations (between 3 31) 32 ≡ false) × (is_asked interval_operations (between 3 32) 32 ≡ true) × (may_exceed interval_operations (between 0xFFFF 0) ≡ true) × (may_exceed interval_operations (between 33 33) ≡ true)
    × (may_exceed interval_operations (between 0 31) ≡ false) × (may_exceed interval_operations (between 0x8000 0x8000) ≡ true) × (may_exceed interval_operations (between 0x7FFF 0x7FFF) ≡ true) × (is_asked interval_operations (between 31 31) 31 ≡ true) × (is_asked interval_operations (between 40 40) 32 ≡ true)
unfolding between
asked_numbers = (refl, refl, refl, refl, refl, refl, refl, refl, refl, refl, refl, refl)

-- both objects with property 3: from the default, -2, to the frozen value; object 2 alone; property 5, of a byte that isn't frozen
-- and of one that is; all numbers
hulls : (answers interval_operations told Value (between 1 2) (between 3 3) ≡ between 0xFFFE 0x1234) × (answers interval_operations told Value (between 2 2) (between 3 3) ≡ between 0xFFFE 0xFFFE) × (answers interval_operations told Value (between 1 1) (between 5 5) ≡ between 0 255) × (answers interval_operations told Value (between 2 9) (between 5 5) ≡ between 9 9) × (answers interval_operations told Value (between 2 2) (between 5 7) ≡ between 0 300) × (answers interval_operations told Value (between 0 5) (between 2 3) ≡ interval_operations.any)
unfolding between told story story_above front tables first_properties has_none any_below is_size_place ends_below
hulls = (refl, refl, refl, refl, refl, refl)

-- addresses, with 0 where an object doesn't have the property, as none has 32
address_hulls : (answers interval_operations told Address (between 1 1) (between 3 3) ≡ between 0x276 0x276) × (answers interval_operations told Address (between 1 2) (between 5 5) ≡ between 0x274 0x281) × (answers interval_operations told Address (between 1 1) (between 5 6) ≡ between 0 0x274) × (answers interval_operations told Address (between 1 1) (between 32 32) ≡ between 0 0) × (answers interval_operations told Next (between 1 1) (between 3 3) ≡ between 0 31)
unfolding between told story story_above front tables first_properties has_none any_below is_size_place ends_below
address_hulls = (refl, refl, refl, refl, refl)

-- ---- lists

abbrev of : List ℕ → Values
of words = packed (gathered words)

-- each number once, and one for all that no property has; a hull has no gaps, and that of an interval is the interval
each_once : (columns (5 ∷ 3 ∷ 5 ∷ 40 ∷ 33 ∷ []) ≡ Some (3 ∷ 5 ∷ 32 ∷ [])) × (hull values_operations (of (3 ∷ 9 ∷ [])) ≡ values_operations.between 3 9) × (hull interval_operations (between 3 9) ≡ between 3 9)
unfolding between with_words rises_behind last_behind place_in is_scattered
each_once = (refl, refl, refl)

-- The words themselves of all pairs: of both objects with property 3, of object 2 with two, and of two numbers that none has. An object that
-- the story hasn't adds none
told_answers :
    (answers values_operations told Value (values_operations.between 1 2) (values_operations.single 3) ≡ of (0x1234 ∷ 0xFFFE ∷ [])) × (answers values_operations told Value (values_operations.single 2) (of (3 ∷ 5 ∷ [])) ≡ of (0xFFFE ∷ 9 ∷ []))
    × (answers values_operations told Address (values_operations.single 1) (of (3 ∷ 40 ∷ 33 ∷ [])) ≡ of (0x276 ∷ 0 ∷ [])) × (answers values_operations told Address (of (2 ∷ 9 ∷ [])) (values_operations.single 5) ≡ values_operations.single 0x281)
unfolding between told story story_above front tables first_properties has_none any_below is_size_place ends_below pairs with_words rises_behind last_behind place_in is_scattered words_from
told_answers = (refl, refl, refl, refl)

-- One value that may change, of object 1, and more numbers than are told: then all that lies between is asked, object 2 among it
between_hulls : (answers values_operations told Value (of (1 ∷ 3 ∷ [])) (of (3 ∷ 5 ∷ [])) ≡ values_operations.between 0xFFFE 0x1234) × (answers values_operations told Address (of (1 ∷ 3 ∷ [])) (values_operations.between 0 64) ≡ values_operations.between 0 0x281)
unfolding between told story story_above front tables first_properties has_none any_below is_size_place ends_below pairs with_words rises_behind last_behind place_in is_scattered words_from
between_hulls = (refl, refl)

-- nothing is frozen, and static memory begins at 0x274, so that all data are static, or further on
told_above : ℕ → FrozenStory
told_above base = record { story = story_above base; ranges = [] }

-- the property table of the only object lies in the globals: property 5 has its byte at 0x42, which play changes
in_globals : FrozenStory
in_globals = record { story = record { memory = front 0x9A ++ replicate 7 0 ++ 0x00 ∷ 0x40 ∷ []; objects = 1 }; ranges = [] }

-- Data in static memory are closed, and stay as they are though nothing is frozen; data in the globals are closed, and change. Of a
-- word whose second byte alone is static nothing is known, and no store may write it
elsewhere :
    (cell_at (told_above 0x74) 1 5 ≡ record { has = true; short = true; is_open = false; values = exactly 7; addresses = exactly 0x274 }) × (cell_at (told_above 0x75) 1 5 ≡ record { has = true; short = true; is_open = true; values = a_byte; addresses = exactly 0x274 })
    × (cell_at (told_above 0x76) 1 3 ≡ record { has = true; short = true; is_open = false; values = exactly 0x1234; addresses = exactly 0x276 }) × (cell_at (told_above 0x77) 1 3 ≡ record { has = true; short = true; is_open = false; values = any_word; addresses = exactly 0x276 }) × (cell_at (told_above 0x78) 1 3 ≡ record { has = true; short = true; is_open = true; values = any_word; addresses = exactly 0x276 })
    × (cell_at in_globals 1 5 ≡ record { has = true; short = true; is_open = false; values = a_byte; addresses = exactly 0x42 })
unfolding told_above in_globals story_above front tables first_properties has_none any_below is_size_place
elsewhere = (refl, refl, refl, refl, refl, refl)

-- where nothing may be asked, nothing is known
nothing : answers interval_operations told Value (between 3 9) (between 3 3) ≡ interval_operations.any
unfolding between told story story_above front tables first_properties has_none any_below is_size_place ends_below
nothing = refl

-- ---- which set is of objects, and which of numbers

only : ℕ → Interval
only = interval_operations.single

abbrev OfFirst : LoadedStory → ℕ → (ℕ → ℕ → Type 0) → Type 0
OfFirst loaded number Holds = EachPair interval_operations loaded (only 1) (only number) Holds

module _ (loaded : LoadedStory) (some : 1 ≤ loaded.objects) (number : ℕ) (is_word : number < 65536) (Holds : ℕ → ℕ → Type 0) where
  -- what holds of object 1 with a number holds of the pairs of two sets that have no other, and the other way round
  of_pair : Holds 1 number → OfFirst loaded number Holds
  unfolding only
  of_pair it x n least most object named = (
      let first : x ≡ 1 = interval_sound.known (interval_operations.single 1) 1 x refl object
      in let same : n ≡ number = interval_sound.known (interval_operations.single number) number n (interval_sound.known_single number is_word) named
      in subst (λ (y : ℕ). Holds y n) (sym first) (subst (Holds 1) (sym same) it)
      )

  pair_of : OfFirst loaded number Holds → Holds 1 number
  unfolding only
  pair_of each = each 1 number (omega arith) some (interval_sound.single 1 (omega arith)) (interval_sound.single number is_word)

-- a byte that isn't closed
open_byte : (of : FrozenStory) (p : ℕ) → is_closed of p ≡ false → IsOpen of.story (frozen_by of.ranges) p
open_byte of p e closed = let yes = (closed_is of p).1 closed in opposite (is_closed of p) e yes
  where
    opposite : (b : Bool) → b ≡ false → b ≡ true → ⊥
    opposite true e f = cc
    opposite false e f = cc

-- Object 1 can be given a word in property 5, of one byte, and asked for it; not in property 2, of three. Its property 5 is open, and
-- its property 3 is frozen; where its table lies in static memory, its property 5 isn't open
asked_pairs :
    CanBePut interval_operations story (only 1) (only 5) × (CanBePut interval_operations story (only 1) (only 2) → ⊥)
    × AreAnswered interval_operations story Value (only 1) (only 5) × (AreAnswered interval_operations story Value (only 1) (only 2) → ⊥)
    × HaveOpenData interval_operations story (frozen_by told.ranges) (only 1) (only 5) × (HaveOpenData interval_operations story (frozen_by told.ranges) (only 1) (only 3) → ⊥)
    × (HaveOpenData interval_operations (story_above 0x74) (frozen_by []) (only 1) (only 5) → ⊥)
unfolding told told_above story story_above front tables first_properties any_below is_size_place
asked_pairs = (
  of_pair story (omega arith) 5 (omega arith) _ refl,
  λ can. absurd (let never : false ≡ true = pair_of story (omega arith) 2 (omega arith) _ can in cc),
  of_pair story (omega arith) 5 (omega arith) _ refl,
  λ are. absurd (let never : false ≡ true = pair_of story (omega arith) 2 (omega arith) _ are in cc),
  of_pair story (omega arith) 5 (omega arith) _ (λ p inside. (let here : p ≡ 0x274 = omega (arith, inside.0, inside.1) in subst (IsOpen story (frozen_by told.ranges)) (sym here) (open_byte told 0x274 refl))),
  λ are. pair_of story (omega arith) 3 (omega arith) _ are 0x276 (omega arith, omega arith) ((closed_is told 0x276).0 refl),
  λ are. pair_of (story_above 0x74) (omega arith) 5 (omega arith) _ are 0x274 (omega arith, omega arith) ((closed_is (told_above 0x74) 0x274).0 refl),
)
