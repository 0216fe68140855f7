-- Properties by their numbers.
use Rattle.std.proofs.Common.{◌≡◌, inl, inr, ℕ, ◌+◌, ◌<◌, Bool, true, false, ◌==◌, if◌then◌else◌, List, length, replicate, Option, Some, None, refl, sym, subst, ap, ◌∙◌, arith}
use Rattle.std.specs.Prelude.{slice_index_or, slice_set}
use Rattle.std.specs.List.{find}
use Rattle.std.proofs.lemmas.Bool.{ne_eqb, eq-eqb}
use Rattle.std.proofs.lemmas.Bool.Decides.{eqb_tells}
use Rattle.std.proofs.lemmas.List.{get_or-set_same, get_or-set_other, get_or-replicate}
use Rattle.zobj.specs.declared.property.Property.{Property}
use Rattle.zstory.specs.Objects.{property_table}
use Rattle.zobj.specs.Properties.{list_place, property_of, is_property, property_there, properties_from, has_number}
use Rattle.zobj.proofs.Lists.{at_property, at_end}
use Rattle.zpairs.specs.Rows.{IsRow, first_of, if_number}

pub none_yet : (n : ℕ) (found : Option Property) → n < 33 → first_of (slice_index_or {A = Option Property} (replicate 33 None) n None) found ≡ found
none_yet n found below = let e : slice_index_or {A = Option Property} (replicate 33 None) n None ≡ None = get_or-replicate 33 n None None below in rw e refl

joined_of : (a b : Option Property) (property : Property) (n : ℕ) (later : Option Property) → b ≡ first_of a (if_number n property) → first_of b later ≡ first_of a (if has_number n property then Some property else later)
joined_of (Some q) b property n later e = rw e refl
joined_of None b property n later e = by (has_number n property) e
  where
    by : (is : Bool) → b ≡ (if is then Some property else None) → first_of b later ≡ (if is then Some property else later)
    by true f = rw f refl
    by false f = rw f refl

module _ (memory : List ℕ) (first at : ℕ) (property : Property) (found : Some property ≡ (if is_property memory at then Some (property_there memory at) else None)) where
  pub one_further : (further : ℕ) → further ≡ property.place + property.length → (row next : List (Option Property)) → ((n : ℕ) → n < 33 → slice_index_or next n None ≡ first_of (slice_index_or row n None) (if_number n property)) → ((n : ℕ) → n < 33 → first_of (slice_index_or row n None) (find (has_number n) (properties_from memory at)) ≡ find (has_number n) (properties_from memory first)) → (n : ℕ) → n < 33 → first_of (slice_index_or next n None) (find (has_number n) (properties_from memory further)) ≡ find (has_number n) (properties_from memory first)
  one_further further there row next kept before n below =
      ap (λ (p : ℕ). first_of (slice_index_or next n None) (find (has_number n) (properties_from memory p))) there
      ∙ joined_of (slice_index_or row n None) (slice_index_or next n None) property n (find (has_number n) (properties_from memory (property.place + property.length))) (kept n below)
      ∙ ap (λ (list : List Property). first_of (slice_index_or row n None) (find (has_number n) list)) (sym (at_property memory at property found))
      ∙ before n below

first_none : (a : Option Property) → a ≡ first_of a None
first_none None = refl
first_none (Some property) = refl

pub row_whole : (memory : List ℕ) (first at : ℕ) (row : List (Option Property)) → None ≡ (if is_property memory at then Some (property_there memory at) else None) → ((n : ℕ) → n < 33 → first_of (slice_index_or row n None) (find (has_number n) (properties_from memory at)) ≡ find (has_number n) (properties_from memory first)) → (n : ℕ) → n < 33 → slice_index_or row n None ≡ find (has_number n) (properties_from memory first)
row_whole memory first at row ended before n below = first_none (slice_index_or row n None) ∙ ap (λ (list : List Property). first_of (slice_index_or row n None) (find (has_number n) list)) (sym (at_end memory at ended)) ∙ before n below

-- a property kept, or one that was there before
pub kept : (row : List (Option Property)) (property : Property) → property.number < length row → slice_index_or row property.number None ≡ None → (n : ℕ) → slice_index_or (slice_set row property.number (Some property)) n None ≡ first_of (slice_index_or row n None) (if_number n property)
kept row property inside none n = elim (eqb_tells property.number n) [
  | inl same ↦ (let e = same.0 in subst (λ (m : ℕ). slice_index_or (slice_set row property.number (Some property)) m None ≡ first_of (slice_index_or row m None) (if_number m property)) same.1 here)
  | inr other ↦ (let e = other.0 in get_or-set_other row property.number n (Some property) None (λ f. other.1 (sym f)) ∙ first_none (slice_index_or row n None) ∙ rw e refl)
]
  where
    here : slice_index_or (slice_set row property.number (Some property)) property.number None ≡ first_of (slice_index_or row property.number None) (if_number property.number property)
    here = let own : has_number property.number property ≡ true = eq-eqb property.number property.number refl in get_or-set_same row property.number (Some property) None inside ∙ rw (none, own) refl

pub stays : (row : List (Option Property)) (property q : Property) → slice_index_or row property.number None ≡ Some q → (n : ℕ) → slice_index_or row n None ≡ first_of (slice_index_or row n None) (if_number n property)
stays row property q some n = elim (eqb_tells property.number n) [
  | inl same ↦ (let there = subst (λ (m : ℕ). slice_index_or row m None ≡ Some q) same.1 some in rw there refl)
  | inr other ↦ (let e = other.0 in first_none (slice_index_or row n None) ∙ rw e refl)
]

-- the row of an object has its properties
pub of_object : (memory : List ℕ) (below list : ℕ) (row : List (Option Property)) → list ≡ list_place memory (property_table memory (below + 1)) → IsRow memory list row → (n : ℕ) → n < 33 → slice_index_or row n None ≡ property_of memory (below + 1) n
of_object memory below list row at is n few =
    let some : (below + 1 == 0) ≡ false = ne_eqb (below + 1) 0 (λ e. omega (arith, e)) in
    is n few ∙ ap (λ (p : ℕ). find (has_number n) (properties_from memory p)) at ∙ sym (rw some refl)
