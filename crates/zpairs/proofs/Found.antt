-- Properties that are found in a list.
use Rattle.std.proofs.Common.{Bool, List, None, Option, Some, [], arith, false, if◌then◌else◌, refl, subst, suc, sym, true, zero, ℕ, ◌+◌, ◌<◌, ◌==◌, ◌∷◌, ◌≡◌, ◌≤◌}
use Rattle.std.specs.Prelude.{IfSome, is_some, option_map}
use Rattle.std.specs.List.{find}
use Rattle.std.proofs.lemmas.Bool.{eqb-true}
use Rattle.std.proofs.lemmas.Option.{same_Some}
use Rattle.zstory.specs.Bytes.{readable_end}
use Rattle.zstory.specs.Objects.{property_table}
use Rattle.zobj.specs.declared.property.Property.{Property}
use Rattle.zobj.specs.Properties.{IsReadable, is_property, property_there, data_end, first_properties, properties_from, properties, has_number, property_of, after_number, first_number, next_in, list_place}
use Rattle.zobj.proofs.Lists.{property_inside}

-- a number that a size byte can have, at least a byte of data, and an address that is a word
pub record IsSmall (memory : List ℕ) (property : Property) : Type 0 where
  pub number : property.number < 32
  pub some : 1 ≤ property.length
  pub place : property.place < 65536
  pub within : property.place + property.length ≤ readable_end memory

small_there : (memory : List ℕ) (at : ℕ) → is_property memory at ≡ true → IsSmall memory (property_there memory at)
small_there memory at e =
    let inside = property_inside memory at e in
    record {
      number = omega arith;
      some = omega arith;
      place = omega (arith, inside.0, inside.1);
      within = omega (arith, inside.1);
    }

-- the first that has a number is small and has it
found_in : (memory : List ℕ) (number most at : ℕ) (property : Property) → find (has_number number) (first_properties most memory at) ≡ Some property → IsSmall memory property × (has_number number property ≡ true)
unfolding first_properties
found_in memory number zero at property = λ e. absurd cc
found_in memory number (suc most) at property = by (is_property memory at) refl (found_in memory number most (data_end memory at) property)
  where
    Sought : Option Property → Type 0
    Sought found = found ≡ Some property → IsSmall memory property × (has_number number property ≡ true)

    here : is_property memory at ≡ true → (b : Bool) → has_number number (property_there memory at) ≡ b → Sought (find (has_number number) (first_properties most memory (data_end memory at))) → Sought (if b then Some (property_there memory at) else find (has_number number) (first_properties most memory (data_end memory at)))
    here there true is rest = λ e. let same : property_there memory at ≡ property = same_Some _ _ e in subst (λ (p : Property). IsSmall memory p × (has_number number p ≡ true)) same (small_there memory at there, is)
    here there false is rest = rest

    by : (b : Bool) → is_property memory at ≡ b → Sought (find (has_number number) (first_properties most memory (data_end memory at))) → Sought (find (has_number number) (if b then property_there memory at ∷ first_properties most memory (data_end memory at) else []))
    by true there rest = here there (has_number number (property_there memory at)) refl rest
    by false there rest = λ e. absurd cc

pub found_small : (memory : List ℕ) (object number : ℕ) (property : Property) → property_of memory object number ≡ Some property → IsSmall memory property × (property.number ≡ number)
found_small memory object number property = by (object == 0)
  where
    by : (b : Bool) → find (has_number number) (if b then [] else properties_from memory (list_place memory (property_table memory object))) ≡ Some property → IsSmall memory property × (property.number ≡ number)
    by true e = absurd cc
    by false e = let found = found_in memory number _ _ property e in (found.0, eqb-true property.number number found.1)

-- so no property has a number above 31
pub none_above : (memory : List ℕ) (object number : ℕ) → 32 ≤ number → property_of memory object number ≡ None
none_above memory object number above = by (property_of memory object number) refl
  where
    by : (found : Option Property) → property_of memory object number ≡ found → found ≡ None
    by None e = refl
    by (Some property) e = let found = found_small memory object number property e in let small = found.0.number in let same = found.1 in absurd (omega (arith, small, same, above))

-- ---- what stands behind a number

first_below : (memory : List ℕ) (most at : ℕ) → first_number (first_properties most memory at) < 32
unfolding first_properties
first_below memory zero at = omega arith
first_below memory (suc most) at = by (is_property memory at)
  where
    by : (b : Bool) → first_number (if b then property_there memory at ∷ first_properties most memory (data_end memory at) else []) < 32
    by true = omega arith
    by false = omega arith

after_in : (memory : List ℕ) (number most at : ℕ) (rest : List Property) → after_number number (first_properties most memory at) ≡ Some rest → first_number rest < 32
unfolding first_properties after_number
after_in memory number zero at rest = λ e. absurd cc
after_in memory number (suc most) at rest = by (is_property memory at) (after_in memory number most (data_end memory at) rest)
  where
    Sought : Option (List Property) → Type 0
    Sought found = found ≡ Some rest → first_number rest < 32

    here : (b : Bool) → Sought (after_number number (first_properties most memory (data_end memory at))) → Sought (if b then Some (first_properties most memory (data_end memory at)) else after_number number (first_properties most memory (data_end memory at)))
    here true later = λ e. let same : first_properties most memory (data_end memory at) ≡ rest = same_Some _ _ e in subst (λ (l : List Property). first_number l < 32) same (first_below memory most (data_end memory at))
    here false later = later

    by : (b : Bool) → Sought (after_number number (first_properties most memory (data_end memory at))) → Sought (after_number number (if b then property_there memory at ∷ first_properties most memory (data_end memory at) else []))
    by true later = here (has_number number (property_there memory at)) later
    by false later = λ e. absurd cc

-- the number behind a number is below 32
pub next_below : (memory : List ℕ) (object number next : ℕ) → next_in (properties memory object) number ≡ Some next → next < 32
unfolding after_number
next_below memory object number next = by_object (object == 0)
  where
    of_list : (at : ℕ) (b : Bool) → (if b then Some (first_number (properties_from memory at)) else option_map first_number (after_number number (properties_from memory at))) ≡ Some next → next < 32
    of_list at true = λ e. let same : first_number (properties_from memory at) ≡ next = same_Some _ _ e in subst (λ (k : ℕ). k < 32) same (first_below memory _ at)
    of_list at false = of_rest (after_number number (properties_from memory at)) refl
      where
        of_rest : (found : Option (List Property)) → after_number number (properties_from memory at) ≡ found → option_map first_number found ≡ Some next → next < 32
        of_rest None is e = absurd cc
        of_rest (Some rest) is e = let same : first_number rest ≡ next = same_Some _ _ e in subst (λ (k : ℕ). k < 32) same (after_in memory number _ at rest is)

    of_none : (b : Bool) → (if b then Some 0 else None) ≡ Some next → next < 32
    of_none true e = let same : 0 ≡ next = same_Some _ _ e in omega (arith, same)
    of_none false e = absurd cc

    by_object : (b : Bool) → next_in (if b then [] else properties_from memory (list_place memory (property_table memory object))) number ≡ Some next → next < 32
    by_object true = of_none (number == 0)
    by_object false = of_list (list_place memory (property_table memory object)) (number == 0)

-- something follows just the numbers that a list has
pub followed : (number : ℕ) (list : List Property) → is_some (option_map first_number (after_number number list)) ≡ is_some (find (has_number number) list)
unfolding after_number
followed number [] = refl
followed number (property ∷ rest) = by (has_number number property) (followed number rest)
  where
    by : (b : Bool) → is_some (option_map first_number (after_number number rest)) ≡ is_some (find (has_number number) rest) → is_some (option_map first_number (if b then Some rest else after_number number rest)) ≡ is_some (if b then Some property else find (has_number number) rest)
    by true same = refl
    by false same = same

pub found_readable : (memory : List ℕ) (object number : ℕ) (found : Option Property) → found ≡ property_of memory object number → IfSome found (IsReadable memory)
found_readable memory object number None e = tt
found_readable memory object number (Some property) e = let small = (found_small memory object number property (sym e)).0 in record { some = small.some; within = small.within }
