-- Lists of properties, with no bound on how many there are.
use Rattle.std.proofs.Common.{◌≡◌, ℕ, zero, suc, ◌+◌, ◌≤◌, Bool, true, false, if◌then◌else◌, List, [], ◌∷◌, Some, None, refl, ap, ◌∙◌, arith}
use Rattle.std.specs.List.{find}
use Rattle.zstory.specs.Bytes.{readable_end}
use Rattle.zobj.specs.declared.property.Property.{Property}
use Rattle.zobj.specs.Properties.{is_property, property_there, data_end, first_properties, properties_from, has_number, after_number}

-- a property is wholly readable
pub property_inside : (memory : List ℕ) (at : ℕ) → is_property memory at ≡ true → (at + 2 ≤ data_end memory at) × (data_end memory at ≤ readable_end memory)
property_inside memory at e = (omega arith, grind (arith, e))

-- with room for as many as there can be, a list is the same
more_room : (memory : List ℕ) (n m at : ℕ) → readable_end memory ≤ n + at → readable_end memory ≤ m + at → first_properties n memory at ≡ first_properties m memory at
unfolding first_properties
more_room memory zero zero at enough same = refl
more_room memory zero (suc m) at enough same = by (is_property memory at) refl
  where
    by : (b : Bool) → is_property memory at ≡ b → [] ≡ (if b then property_there memory at ∷ first_properties m memory (data_end memory at) else [])
    by true e = let inside = property_inside memory at e in absurd (omega (arith, inside.0, inside.1, enough))
    by false e = refl
more_room memory (suc n) zero at enough same = by (is_property memory at) refl
  where
    by : (b : Bool) → is_property memory at ≡ b → (if b then property_there memory at ∷ first_properties n memory (data_end memory at) else []) ≡ []
    by true e = let inside = property_inside memory at e in absurd (omega (arith, inside.0, inside.1, same))
    by false e = refl
more_room memory (suc n) (suc m) at enough same = by (is_property memory at) refl (λ a b. more_room memory n m (data_end memory at) a b)
  where
    by : (b : Bool) → is_property memory at ≡ b → (readable_end memory ≤ n + data_end memory at → readable_end memory ≤ m + data_end memory at → first_properties n memory (data_end memory at) ≡ first_properties m memory (data_end memory at)) → (if b then property_there memory at ∷ first_properties n memory (data_end memory at) else []) ≡ (if b then property_there memory at ∷ first_properties m memory (data_end memory at) else [])
    by true e rest = let inside = property_inside memory at e in ap (λ (l : List Property). property_there memory at ∷ l) (rest (omega (arith, inside.0, enough)) (omega (arith, inside.0, same)))
    by false e rest = refl

step_with : (memory : List ℕ) (n at : ℕ) → readable_end memory ≤ n + at → first_properties n memory at ≡ (if is_property memory at then property_there memory at ∷ properties_from memory (data_end memory at) else [])
unfolding first_properties
step_with memory zero at enough = by (is_property memory at) refl
  where
    by : (b : Bool) → is_property memory at ≡ b → [] ≡ (if b then property_there memory at ∷ properties_from memory (data_end memory at) else [])
    by true e = let inside = property_inside memory at e in absurd (omega (arith, inside.0, inside.1, enough))
    by false e = refl
step_with memory (suc n) at enough = by (is_property memory at) refl
  where
    by : (b : Bool) → is_property memory at ≡ b → (if b then property_there memory at ∷ first_properties n memory (data_end memory at) else []) ≡ (if b then property_there memory at ∷ properties_from memory (data_end memory at) else [])
    by true e = let inside = property_inside memory at e in ap (λ (l : List Property). property_there memory at ∷ l) (more_room memory n (readable_end memory) (data_end memory at) (omega (arith, inside.0, enough)) (omega arith))
    by false e = refl

-- a list is a property and the list behind it, or ends
pub properties_from-step : (memory : List ℕ) (at : ℕ) → properties_from memory at ≡ (if is_property memory at then property_there memory at ∷ properties_from memory (data_end memory at) else [])
properties_from-step memory at = step_with memory (readable_end memory) at (omega arith)

-- the same, by what is read at the place
pub at_property : (memory : List ℕ) (at : ℕ) (property : Property) → Some property ≡ (if is_property memory at then Some (property_there memory at) else None) → properties_from memory at ≡ property ∷ properties_from memory (property.place + property.length)
at_property memory at property found = properties_from-step memory at ∙ by (is_property memory at) found
  where
    by : (b : Bool) → Some property ≡ (if b then Some (property_there memory at) else None) → (if b then property_there memory at ∷ properties_from memory (data_end memory at) else []) ≡ property ∷ properties_from memory (property.place + property.length)
    by true e = let same : property ≡ property_there memory at = cc in rw same refl
    by false e = absurd cc

pub at_end : (memory : List ℕ) (at : ℕ) → None ≡ (if is_property memory at then Some (property_there memory at) else None) → properties_from memory at ≡ []
at_end memory at found = properties_from-step memory at ∙ by (is_property memory at) found
  where
    by : (b : Bool) → None ≡ (if b then Some (property_there memory at) else None) → (if b then property_there memory at ∷ properties_from memory (data_end memory at) else []) ≡ []
    by true e = absurd cc
    by false e = refl

-- a property with another number is passed, and one with the number is found
module _ (memory : List ℕ) (at number : ℕ) (property : Property) (found : Some property ≡ (if is_property memory at then Some (property_there memory at) else None)) where
  pub found_first : has_number number property ≡ true → find (has_number number) (properties_from memory at) ≡ Some property
  found_first is = rw (at_property memory at property found, is) refl

  pub found_later : has_number number property ≡ false → find (has_number number) (properties_from memory at) ≡ find (has_number number) (properties_from memory (property.place + property.length))
  found_later is = rw (at_property memory at property found, is) refl

  pub after_first : has_number number property ≡ true → after_number number (properties_from memory at) ≡ Some (properties_from memory (property.place + property.length))
  unfolding after_number
  after_first is = rw (at_property memory at property found, is) refl

  pub after_later : has_number number property ≡ false → after_number number (properties_from memory at) ≡ after_number number (properties_from memory (property.place + property.length))
  unfolding after_number
  after_later is = rw (at_property memory at property found, is) refl

pub none_found : (memory : List ℕ) (at number : ℕ) → properties_from memory at ≡ [] → find (has_number number) (properties_from memory at) ≡ None
none_found memory at number e = rw e refl

pub none_after : (memory : List ℕ) (at number : ℕ) → properties_from memory at ≡ [] → after_number number (properties_from memory at) ≡ None
unfolding after_number
none_after memory at number e = rw e refl
