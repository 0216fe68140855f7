-- Steps on properties and arrays, computed.
use Rattle.std.proofs.Common.{◌≡◌, ℕ, List, [], ◌∷◌, ◌++◌, replicate, slice_set, Result, Ok, Err, refl}
use Rattle.zarray.specs.declared.width.Width.TheVariants.{Byte, Word}
use Rattle.zobj.specs.declared.answers.PropertyQuestion.TheVariants.{Value, Address, Next}
use Rattle.zobj.specs.Properties.{first_properties, after_number}
use Rattle.ztext.specs.Alphabets.{small_letters}
use Rattle.ztext.specs.Output.{output_at, output_of_characters}
use Rattle.zcode.specs.declared.operation.Operation.{Operation}
use Rattle.zcode.specs.declared.operation.Operation.TheVariants as operations
use Rattle.zfault.specs.declared.fault.Fault.TheVariants.{AbsentObject, AbsentProperty, PropertyTooLong, ReadOutside, WriteOutside}
use Rattle.zstate.specs.declared.halt.Halt.{Halt}
use Rattle.zstate.specs.declared.halt.Halt.TheVariants as halts
use Rattle.zstate.specs.State.{most_limit, scope_all, opening}
use Rattle.zstate.specs.Step.{Effect, effect_of, giving, printing, proceeds, rewriting, are_writable}

-- the table of two objects at 64, with 258 for property 6. The first object's list is at 144, below the name "hello": at 150 the data of property 20,
-- at 153 those of 5. The second has no name, and at 157 the data of property 3, which are three bytes
memory : List ℕ
memory =
    replicate 11 0 ++ 64 ∷ 0 ∷ 0 ∷ 0 ∷ 154 ∷ replicate 48 0 ++ replicate 10 0 ++ 1 ∷ 2 ∷ replicate 50 0
    ++ 0 ∷ 0 ∷ 0 ∷ 0 ∷ 0 ∷ 0 ∷ 0 ∷ 0 ∷ 144 ∷ 0 ∷ 0 ∷ 0 ∷ 0 ∷ 0 ∷ 0 ∷ 0 ∷ 0 ∷ 155
    ∷ 2 ∷ 0x35 ∷ 0x51 ∷ 0xC6 ∷ 0x85 ∷ 52 ∷ 0x12 ∷ 0x34 ∷ 5 ∷ 0x7F ∷ 0 ∷ 0 ∷ 67 ∷ 1 ∷ 2 ∷ 3 ∷ 0 ∷ []

-- what an operation does in this story, with its dynamic memory up to a place below 256
from : ℕ → Operation → List ℕ → Result Effect Halt
from base operation values =
    effect_of (record { story = record { memory = slice_set memory 15 base; objects = 2 }; scope = scope_all (record { memory = memory; objects = 2 }); limit = most_limit }) operation values (opening (record { memory = memory; objects = 2 }))

does : Operation → List ℕ → Result Effect Halt
does = from 154

-- and where the second object's three bytes are those of a property 0
numbered_none : Operation → List ℕ → Result Effect Halt
numbered_none operation values =
    effect_of (record { story = record { memory = memory; objects = 2 }; scope = scope_all (record { memory = memory; objects = 2 }); limit = most_limit }) operation values (record (opening (record { memory = memory; objects = 2 })) { memory = slice_set memory 156 64 })

-- values, defaults, one that is too long, one of no property, and one of no object
asked : (does (operations.Property Value) (1 ∷ 20 ∷ []) ≡ Ok (giving 0x1234)) × (does (operations.Property Value) (1 ∷ 5 ∷ []) ≡ Ok (giving 0x7F)) × (does (operations.Property Value) (1 ∷ 6 ∷ []) ≡ Ok (giving 258)) × (does (operations.Property Value) (2 ∷ 20 ∷ []) ≡ Ok (giving 0)) × (does (operations.Property Value) (2 ∷ 3 ∷ []) ≡ Err (halts.Fault PropertyTooLong)) × (does (operations.Property Value) (1 ∷ 32 ∷ []) ≡ Err (halts.Fault AbsentProperty)) × (does (operations.Property Value) (3 ∷ 20 ∷ []) ≡ Err (halts.Fault AbsentObject))
unfolding does from memory effect_of first_properties after_number
asked = (refl, refl, refl, refl, refl, refl, refl)

located : (does (operations.Property Address) (1 ∷ 20 ∷ []) ≡ Ok (giving 150)) × (does (operations.Property Address) (1 ∷ 6 ∷ []) ≡ Ok (giving 0)) × (does (operations.Property Next) (1 ∷ 0 ∷ []) ≡ Ok (giving 20)) × (does (operations.Property Next) (1 ∷ 20 ∷ []) ≡ Ok (giving 5)) × (does (operations.Property Next) (1 ∷ 5 ∷ []) ≡ Ok (giving 0)) × (does (operations.Property Next) (1 ∷ 6 ∷ []) ≡ Err (halts.Fault AbsentProperty))
unfolding does from memory effect_of first_properties after_number
located = (refl, refl, refl, refl, refl, refl)

-- by the size byte before the data; none at 0, and none behind memory
lengths : (does operations.PropertyLength (150 ∷ []) ≡ Ok (giving 2)) × (does operations.PropertyLength (153 ∷ []) ≡ Ok (giving 1)) × (does operations.PropertyLength (0 ∷ []) ≡ Ok (giving 0)) × (does operations.PropertyLength (157 ∷ []) ≡ Ok (giving 3)) × (does operations.PropertyLength (161 ∷ []) ≡ Ok (giving 1)) × (does operations.PropertyLength (162 ∷ []) ≡ Err (halts.Fault ReadOutside))
unfolding does from memory effect_of
lengths = (refl, refl, refl, refl, refl, refl)

-- a word, or its low byte
filled : (does operations.SetProperty (1 ∷ 20 ∷ 0x5678 ∷ []) ≡ Ok (rewriting (slice_set (slice_set memory 150 0x56) 151 0x78))) × (does operations.SetProperty (1 ∷ 5 ∷ 0x5678 ∷ []) ≡ Ok (rewriting (slice_set memory 153 0x78))) × (does operations.SetProperty (1 ∷ 6 ∷ 1 ∷ []) ≡ Err (halts.Fault AbsentProperty)) × (does operations.SetProperty (2 ∷ 3 ∷ 1 ∷ []) ≡ Err (halts.Fault PropertyTooLong)) × (does operations.SetProperty (3 ∷ 20 ∷ 1 ∷ []) ≡ Err (halts.Fault AbsentObject))
unfolding does from memory effect_of first_properties after_number are_writable
filled = (refl, refl, refl, refl, refl)

-- where one of its bytes lies at the static base
frozen : (from 151 operations.SetProperty (1 ∷ 20 ∷ 1 ∷ []) ≡ Err (halts.Fault WriteOutside)) × (from 150 operations.SetProperty (1 ∷ 20 ∷ 1 ∷ []) ≡ Err (halts.Fault WriteOutside))
unfolding from memory effect_of first_properties after_number are_writable
frozen = (refl, refl)

-- the length is asked before whether the data may be written, the number before the length, and the object before both
ordered : (from 150 operations.SetProperty (2 ∷ 3 ∷ 1 ∷ []) ≡ Err (halts.Fault PropertyTooLong)) × (numbered_none (operations.Property Value) (2 ∷ 0 ∷ []) ≡ Err (halts.Fault AbsentProperty)) × (does (operations.Property Value) (3 ∷ 32 ∷ []) ≡ Err (halts.Fault AbsentObject)) × (does (operations.Property Next) (0 ∷ 6 ∷ []) ≡ Err (halts.Fault AbsentObject))
unfolding does from numbered_none memory effect_of first_properties after_number are_writable
ordered = (refl, refl, refl, refl)

named : (does operations.PrintObject (1 ∷ []) ≡ Ok (printing (0x68 ∷ 0x65 ∷ 0x6C ∷ 0x6C ∷ 0x6F ∷ []))) × (does operations.PrintObject (2 ∷ []) ≡ Ok proceeds) × (does operations.PrintObject (3 ∷ []) ≡ Err (halts.Fault AbsentObject)) × (does operations.PrintObject (0 ∷ []) ≡ Err (halts.Fault AbsentObject))
unfolding does from memory effect_of output_at output_of_characters small_letters
named = (refl, refl, refl, refl)

-- elements up to the end of memory, and behind 65,535 from 0 on
loaded : (does (operations.LoadArray Word) (72 ∷ 1 ∷ []) ≡ Ok (giving 258)) × (does (operations.LoadArray Byte) (72 ∷ 3 ∷ []) ≡ Ok (giving 2)) × (does (operations.LoadArray Byte) (65535 ∷ 76 ∷ []) ≡ Ok (giving 2)) × (does (operations.LoadArray Word) (159 ∷ 0 ∷ []) ≡ Ok (giving 768)) × (does (operations.LoadArray Word) (160 ∷ 0 ∷ []) ≡ Err (halts.Fault ReadOutside)) × (does (operations.LoadArray Byte) (160 ∷ 0 ∷ []) ≡ Ok (giving 0)) × (does (operations.LoadArray Byte) (161 ∷ 0 ∷ []) ≡ Err (halts.Fault ReadOutside))
unfolding does from memory effect_of
loaded = (refl, refl, refl, refl, refl, refl, refl)

stored : (does (operations.StoreArray Word) (72 ∷ 1 ∷ 0x0A0B ∷ []) ≡ Ok (rewriting (slice_set (slice_set memory 74 0x0A) 75 0x0B))) × (does (operations.StoreArray Byte) (72 ∷ 1 ∷ 0x0A0B ∷ []) ≡ Ok (rewriting (slice_set memory 73 0x0B))) × (does (operations.StoreArray Byte) (153 ∷ 0 ∷ 1 ∷ []) ≡ Ok (rewriting (slice_set memory 153 1))) × (does (operations.StoreArray Word) (153 ∷ 0 ∷ 1 ∷ []) ≡ Err (halts.Fault WriteOutside)) × (does (operations.StoreArray Byte) (154 ∷ 0 ∷ 1 ∷ []) ≡ Err (halts.Fault WriteOutside))
unfolding does from memory effect_of are_writable
stored = (refl, refl, refl, refl, refl)

-- of the header Flags 2 alone
headed : (does (operations.StoreArray Byte) (63 ∷ 0 ∷ 1 ∷ []) ≡ Err (halts.Fault WriteOutside)) × (does (operations.StoreArray Byte) (15 ∷ 0 ∷ 1 ∷ []) ≡ Err (halts.Fault WriteOutside)) × (does (operations.StoreArray Word) (16 ∷ 0 ∷ 258 ∷ []) ≡ Ok (rewriting (slice_set (slice_set memory 16 1) 17 2))) × (does (operations.StoreArray Word) (17 ∷ 0 ∷ 1 ∷ []) ≡ Err (halts.Fault WriteOutside)) × (does (operations.StoreArray Byte) (64 ∷ 0 ∷ 1 ∷ []) ≡ Ok (rewriting (slice_set memory 64 1)))
unfolding does from memory effect_of are_writable
headed = (refl, refl, refl, refl, refl)
