-- What questions about an object's properties are answered (Z 12.4, 15 get_prop, get_prop_addr, get_next_prop).
use Rattle.std.specs.Prelude.{ℕ, Bool, ◌&&◌, nat_le, nat_lt, if◌then◌else◌, List, Option, Some, None, Result, Ok, Err}
use Rattle.zobj.specs.declared.error.ObjectError.{ObjectError}
use Rattle.zobj.specs.declared.error.ObjectError.TheVariants.{AbsentProperty}
use Rattle.zobj.specs.declared.property.Property.{Property}
use Rattle.zobj.specs.declared.answers.PropertyQuestion.{PropertyQuestion}
use Rattle.zobj.specs.declared.answers.PropertyQuestion.TheVariants.{Value, Address, Next}
use Rattle.zobj.specs.Properties.{properties, property_of, next_in}
use Rattle.zobj.specs.Values.{property_value}

-- properties have the numbers from 1 to 31 (Z 12.4.1)
abbrev pub is_property_number : ℕ → Bool
is_property_number number = nat_le 1 number && nat_lt number 32

-- the address of a property's data, 0 where there is none (Z 15 get_prop_addr)
abbrev pub address_of : Option Property → ℕ
address_of None = 0
address_of (Some property) = property.place

abbrev pub if_there : Option ℕ → Result ℕ ObjectError
if_there None = Err AbsentProperty
if_there (Some x) = Ok x

-- The value of a property, its default where the object has none of that number; the address of its data; the number behind
-- a number. A value is asked of numbers of properties alone, and what follows only of 0 and of numbers that the object has.
abbrev pub answer_of : PropertyQuestion → List ℕ → ℕ → ℕ → Result ℕ ObjectError
answer_of Value memory object number = if is_property_number number then property_value memory object number else Err AbsentProperty
answer_of Address memory object number = Ok (address_of (property_of memory object number))
answer_of Next memory object number = if_there (next_in (properties memory object) number)
