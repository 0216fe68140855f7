-- Property tables: a byte that counts the words of the short name, the name, and a list of properties. Each has a size byte, of
-- which the lowest five bits are its number and the highest three its length less 1, and then its data (Z 12.4).
use Rattle.std.specs.Prelude.{ℕ, zero, suc, ◌+◌, ◌*◌, ◌/◌, ◌%◌, ◌≤◌, Bool, ◌&&◌, not, ◌==◌, nat_le, if◌then◌else◌, List, [], ◌∷◌, Option, Some, None, option_map}
use Rattle.std.specs.List.{find}
use Rattle.zobj.specs.declared.property.Property.{Property}
use Rattle.zstory.specs.Bytes.{byte_at, readable_end}
use Rattle.zstory.specs.Objects.{property_table}

-- where the list of a property table begins
abbrev pub list_place : List ℕ → ℕ → ℕ
list_place memory table = table + 1 + 2 * byte_at memory table

-- how many data bytes a property has, by its size byte (Z 12.4.1)
abbrev pub data_length : ℕ → ℕ
data_length size = size / 32 + 1

abbrev pub property_number : ℕ → ℕ
property_number size = size % 32

-- where the data of the property at a size byte end
abbrev pub data_end : List ℕ → ℕ → ℕ
data_end memory at = at + 1 + data_length (byte_at memory at)

-- At the place of a size byte stands a property: no zero byte, which ends a list, and wholly readable. So a list ends, too,
-- where memory ends, and no later than at 65,536 (own)
abbrev pub is_property : List ℕ → ℕ → Bool
is_property memory at = not (byte_at memory at == 0) && nat_le (data_end memory at) (readable_end memory)

-- the property at a size byte: its number, where its data are, and how many
abbrev pub property_there : List ℕ → ℕ → Property
property_there memory at = record { number = property_number (byte_at memory at); place = at + 1; length = data_length (byte_at memory at) }

-- a property that is wholly readable, with at least a byte of data
pub record IsReadable (memory : List ℕ) (property : Property) : Type 0 where
  pub some : 1 ≤ property.length
  pub within : property.place + property.length ≤ readable_end memory

-- the properties from the place of a size byte on, at most so many
unfoldable pub first_properties : ℕ → List ℕ → ℕ → List Property
first_properties zero memory at = []
first_properties (suc most) memory at = if is_property memory at then property_there memory at ∷ first_properties most memory (data_end memory at) else []

-- all of them: there are fewer than readable bytes
abbrev pub properties_from : List ℕ → ℕ → List Property
properties_from memory at = first_properties (readable_end memory) memory at

-- the list of an object's properties; object 0 has none (own)
abbrev pub properties : List ℕ → ℕ → List Property
properties memory object = if object == 0 then [] else properties_from memory (list_place memory (property_table memory object))

abbrev pub has_number : ℕ → Property → Bool
has_number number property = property.number == number

-- the property of an object with a number, the first where there are several (own)
abbrev pub property_of : List ℕ → ℕ → ℕ → Option Property
property_of memory object number = find (has_number number) (properties memory object)

-- what follows the first property with a number
unfoldable pub after_number : ℕ → List Property → Option (List Property)
after_number number [] = None
after_number number (property ∷ rest) = if has_number number property then Some rest else after_number number rest

-- the number of the first property, 0 where there is none
abbrev pub first_number : List Property → ℕ
first_number [] = 0
first_number (property ∷ rest) = property.number

-- the number behind a number in a list of properties, 0 behind the last; that of the first behind 0. None where there is no
-- such number (Z 15 get_next_prop)
abbrev pub next_in : List Property → ℕ → Option ℕ
next_in list number = if number == 0 then Some (first_number list) else option_map first_number (after_number number list)
