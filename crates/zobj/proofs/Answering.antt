-- What is found in a list of properties, and that each answer is a word.
use Rattle.std.proofs.Common.{◌≡◌, ℕ, zero, suc, ◌+◌, ◌<◌, ◌≤◌, nat_lt, Bool, true, false, if◌then◌else◌, List, [], ◌∷◌, Option, Some, None, Result, Ok, Err, refl, sym, arith, lit<}
use Rattle.std.specs.Prelude.{◌==◌, IfOk, IfSome, option_map}
use Rattle.std.specs.List.{find}
use Rattle.std.proofs.lemmas.Option.{same_Some}
use Rattle.zstory.specs.Bytes.{AreBytes, byte_at, word_at, readable_end}
use Rattle.zstory.specs.Objects.{property_table}
use Rattle.zobj.specs.declared.error.ObjectError.{ObjectError}
use Rattle.zobj.specs.declared.error.ObjectError.TheVariants.{AbsentProperty, PropertyTooLong}
use Rattle.zobj.specs.declared.property.Property.{Property}
use Rattle.zobj.specs.declared.answers.PropertyQuestion.{PropertyQuestion}
use Rattle.zobj.specs.declared.answers.PropertyQuestion.TheVariants.{Value, Address, Next}
use Rattle.zobj.specs.Answers.{address_of, answer_of, if_there, is_property_number}
use Rattle.zobj.specs.Properties.{after_number, data_end, data_length, first_number, first_properties, has_number, is_property, list_place, next_in, properties, properties_from, property_of, property_there, IsReadable}
use Rattle.zobj.specs.Values.{length_before, property_value, value_or_default}
use Rattle.zobj.proofs.Lists.{property_inside}

-- ---- what is found is wholly readable

pub found_readable : (memory : List ℕ) (most at number : ℕ) (property : Property) → find (has_number number) (first_properties most memory at) ≡ Some property → IsReadable memory property
unfolding first_properties
found_readable memory zero at number property e = absurd cc
found_readable memory (suc most) at number property e = by (is_property memory at) refl (found_readable memory most (data_end memory at) number property) e
  where
    here : is_property memory at ≡ true → IsReadable memory (property_there memory at)
    here is = let inside = property_inside memory at is in record { some = omega arith; within = omega (arith, inside.1) }

    found : (b : Bool) → is_property memory at ≡ true → (find (has_number number) (first_properties most memory (data_end memory at)) ≡ Some property → IsReadable memory property) → (if b then Some (property_there memory at) else find (has_number number) (first_properties most memory (data_end memory at))) ≡ Some property → IsReadable memory property
    found true is rest e = rw (sym (same_Some (property_there memory at) property e)) (here is)
    found false is rest e = rest e

    by : (b : Bool) → is_property memory at ≡ b → (find (has_number number) (first_properties most memory (data_end memory at)) ≡ Some property → IsReadable memory property) → find (has_number number) (if b then property_there memory at ∷ first_properties most memory (data_end memory at) else []) ≡ Some property → IsReadable memory property
    by true is rest e = found (has_number number (property_there memory at)) is rest e
    by false is rest e = absurd cc

pub of_readable : (memory : List ℕ) (object number : ℕ) (property : Property) → property_of memory object number ≡ Some property → IsReadable memory property
of_readable memory object number property = by (object == 0)
  where
    by : (b : Bool) → find (has_number number) (if b then [] else properties_from memory (list_place memory (property_table memory object))) ≡ Some property → IsReadable memory property
    by true e = absurd cc
    by false e = found_readable memory (readable_end memory) (list_place memory (property_table memory object)) number property e

-- ---- the number of a property is at most 31

first_small : (memory : List ℕ) (most at : ℕ) → first_number (first_properties most memory at) < 32
unfolding first_properties
first_small memory zero at = lit< tt
first_small memory (suc most) at = by (is_property memory at)
  where
    by : (b : Bool) → first_number (if b then property_there memory at ∷ first_properties most memory (data_end memory at) else []) < 32
    by true = omega arith
    by false = lit< tt

after_small : (memory : List ℕ) (most at number : ℕ) → IfSome (option_map first_number (after_number number (first_properties most memory at))) (λ x. x < 32)
unfolding first_properties after_number
after_small memory zero at number = tt
after_small memory (suc most) at number = by (is_property memory at) (after_small memory most (data_end memory at) number)
  where
    found : (b : Bool) → IfSome (option_map first_number (after_number number (first_properties most memory (data_end memory at)))) (λ x. x < 32) → IfSome (option_map first_number (if b then Some (first_properties most memory (data_end memory at)) else after_number number (first_properties most memory (data_end memory at)))) (λ x. x < 32)
    found true rest = first_small memory most (data_end memory at)
    found false rest = rest

    by : (b : Bool) → IfSome (option_map first_number (after_number number (first_properties most memory (data_end memory at)))) (λ x. x < 32) → IfSome (option_map first_number (after_number number (if b then property_there memory at ∷ first_properties most memory (data_end memory at) else []))) (λ x. x < 32)
    by true rest = found (has_number number (property_there memory at)) rest
    by false rest = tt

next_small : (memory : List ℕ) (object number : ℕ) → IfSome (next_in (properties memory object) number) (λ x. x < 32)
unfolding after_number
next_small memory object number = by (object == 0) (number == 0)
  where
    by : (b c : Bool) → IfSome (if c then Some (first_number (if b then [] else properties_from memory (list_place memory (property_table memory object)))) else option_map first_number (after_number number (if b then [] else properties_from memory (list_place memory (property_table memory object))))) (λ x. x < 32)
    by true true = lit< tt
    by true false = tt
    by false true = first_small memory (readable_end memory) (list_place memory (property_table memory object))
    by false false = after_small memory (readable_end memory) (list_place memory (property_table memory object)) number

pub next_answer_small : (memory : List ℕ) (object number : ℕ) → IfOk (answer_of Next memory object number) (λ x. x < 32)
next_answer_small memory object number = by (next_in (properties memory object) number) (next_small memory object number)
  where
    by : (r : Option ℕ) → IfSome r (λ x. x < 32) → IfOk (if_there r) (λ x. x < 32)
    by None h = tt
    by (Some x) h = h

-- ---- each answer is a word

word_small : (memory : List ℕ) (at : ℕ) → AreBytes memory → word_at memory at < 65536
word_small memory at are = let high = are at in let low = are (at + 1) in omega (arith, high, low)

pub answer_word : (memory : List ℕ) (question : PropertyQuestion) (object number : ℕ) → AreBytes memory → IfOk (answer_of question memory object number) (λ x. x < 65536)
answer_word memory Value object number are = by (is_property_number number)
  where
    of_length : (property : Property) (one two : Bool) → IfOk (if one then Ok (byte_at memory property.place) else (if two then Ok (word_at memory property.place) else Err PropertyTooLong)) (λ x. x < 65536)
    of_length property true two = let byte = are property.place in omega (arith, byte)
    of_length property false true = word_small memory property.place are
    of_length property false false = tt

    of_default : (b : Bool) (at : ℕ) → (if b then 0 else word_at memory at) < 65536
    of_default true at = lit< tt
    of_default false at = word_small memory at are

    found : (r : Option Property) → IfOk (value_or_default memory number r) (λ x. x < 65536)
    found None = of_default (number == 0) _
    found (Some property) = of_length property (property.length == 1) (property.length == 2)

    by : (b : Bool) → IfOk (if b then property_value memory object number else Err AbsentProperty) (λ x. x < 65536)
    by true = found (property_of memory object number)
    by false = tt
answer_word memory Address object number are = by (property_of memory object number) refl
  where
    by : (r : Option Property) → property_of memory object number ≡ r → address_of r < 65536
    by None is = lit< tt
    by (Some property) is = let readable = of_readable memory object number property is in omega (arith, readable.some, readable.within)
answer_word memory Next object number are = by (answer_of Next memory object number) (next_answer_small memory object number)
  where
    by : (r : Result ℕ ObjectError) → IfOk r (λ x. x < 32) → IfOk r (λ x. x < 65536)
    by (Ok x) h = omega (arith, h)
    by (Err e) h = tt

-- ---- and a length at most 8

pub length_small : (memory : List ℕ) (address : ℕ) → AreBytes memory → IfSome (length_before memory address) (λ n. n ≤ 8)
length_small memory zero are = omega arith
length_small memory (suc at) are = by (nat_lt at (readable_end memory))
  where
    by : (b : Bool) → IfSome (if b then Some (data_length (byte_at memory at)) else None) (λ n. n ≤ 8)
    by true = let byte = are at in omega (arith, byte)
    by false = tt
