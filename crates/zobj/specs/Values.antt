-- What properties hold (Z 12.4, 15 get_prop, put_prop, get_prop_len).
use Rattle.std.specs.Prelude.{ℕ, zero, suc, ◌+◌, ◌-◌, ◌*◌, ◌/◌, ◌%◌, ◌<◌, ◌≤◌, ◌==◌, nat_lt, if◌then◌else◌, List, Option, Some, None, Result, Ok, Err, slice_set}
use Rattle.zobj.specs.declared.error.ObjectError.{ObjectError}
use Rattle.zobj.specs.declared.error.ObjectError.TheVariants.{AbsentProperty, PropertyTooLong}
use Rattle.zobj.specs.declared.property.Property.{Property}
use Rattle.zstory.specs.Bytes.{byte_at, word_at, readable_end}
use Rattle.zstory.specs.Header.{object_table}
use Rattle.zobj.specs.Properties.{data_length, property_of}

-- the default of a property, of which the table of objects has 31 words, the first for property 1; property 0 has none (Z 12.2)
abbrev pub default_word : List ℕ → ℕ → ℕ
default_word memory number = if number == 0 then 0 else word_at memory (object_table memory + 2 * (number - 1))

-- the value of a property with one or two bytes of data (Z 15 get_prop); one with more has none
abbrev pub value_of : List ℕ → Property → Result ℕ ObjectError
value_of memory property =
    if property.length == 1 then Ok (byte_at memory property.place)
    else (if property.length == 2 then Ok (word_at memory property.place) else Err PropertyTooLong)

-- the value of an object's property, or the default where it has none of that number
abbrev pub value_or_default : List ℕ → ℕ → Option Property → Result ℕ ObjectError
value_or_default memory number None = Ok (default_word memory number)
value_or_default memory number (Some property) = value_of memory property

abbrev pub property_value : List ℕ → ℕ → ℕ → Result ℕ ObjectError
property_value memory object number = value_or_default memory number (property_of memory object number)

-- a byte of its data
abbrev pub IsDataByte : Property → ℕ → Type 0
IsDataByte property p = (property.place ≤ p) × (p < property.place + property.length)

-- the memory with a word in a property's data: its low byte where that is one byte, its high and low byte where that is two
-- (Z 15 put_prop)
abbrev pub with_value : ℕ → List ℕ → Property → Result (List ℕ) ObjectError
with_value word memory property =
    if property.length == 1 then Ok (slice_set memory property.place (word % 256))
    else (if property.length == 2 then Ok (slice_set (slice_set memory property.place (word / 256)) (property.place + 1) (word % 256)) else Err PropertyTooLong)

abbrev pub with_found : ℕ → List ℕ → Option Property → Result (List ℕ) ObjectError
with_found word memory None = Err AbsentProperty
with_found word memory (Some property) = with_value word memory property

-- an object's property is given a word
abbrev pub with_property : ℕ → ℕ → ℕ → List ℕ → Result (List ℕ) ObjectError
with_property object number word memory = with_found word memory (property_of memory object number)

-- how many bytes of data there are at an address, by the size byte before it, and none at 0 (Z 15 get_prop_len); None where
-- that byte isn't readable
abbrev pub length_before : List ℕ → ℕ → Option ℕ
length_before memory zero = Some 0
length_before memory (suc at) = if nat_lt at (readable_end memory) then Some (data_length (byte_at memory at)) else None
