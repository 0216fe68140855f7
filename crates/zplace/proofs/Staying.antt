-- What a play leaves of objects as it was loaded: property tables but for their data, and the defaults of properties.
use Rattle.std.proofs.Common.{◌≡◌, ◌⊎◌, inl, inr, ℕ, zero, suc, ◌+◌, ◌*◌, ◌-◌, ◌<◌, ◌≤◌, Bool, true, false, if◌then◌else◌, nat_lt, List, [], ◌∷◌, length, Option, Some, None, refl, sym, ap, subst, arith}
use Rattle.std.specs.Prelude.{◌≢◌, ◌==◌, option_map}
use Rattle.std.specs.List.{find}
use Rattle.std.proofs.lemmas.Bool.{cases_lt, lt-ltb}
use Rattle.std.proofs.lemmas.Option.{same_Some}
use Rattle.zstory.specs.Bytes.{byte_at, readable_end}
use Rattle.zstory.specs.Header as header
use Rattle.zstory.specs.LoadedStory.{LoadedStory, IsSound, globals, object_table, static_base}
use Rattle.zstory.specs.Objects.{IsObjectCount, object_place, property_table}
use Rattle.zobj.specs.declared.name.ShortName.TheVariants.{Empty, At, Outside}
use Rattle.zobj.specs.declared.property.Property.{Property}
use Rattle.zobj.specs.Names.{name_in, short_name}
use Rattle.zobj.specs.Properties.{data_end, first_properties, has_number, is_property, list_place, properties, properties_from, property_of, property_there}
use Rattle.zobj.specs.Values.{IsDataByte, default_word}
use Rattle.zobj.proofs.Bytes.{no_zero}
use Rattle.zobj.proofs.Lists.{property_inside}
use Rattle.ztext.specs.Words.{text_at}
use Rattle.ztext.proofs.Sameness.{text_at-same}
use Rattle.zplace.specs.Bytes.{IsChanging, IsClosed, IsFixed, IsPropertyFrame, IsSizePlace, IsWithin, header, a_global, a_default, an_entry, a_property, an_abbreviation, frozen, static, here, behind}
use Rattle.zplace.specs.Tables.{HasName, HasPropertyTables, IsDataPlace, IsPropertyData, in_data, in_rest}
use Rattle.zplace.proofs.Lists.{data_behind, data_inside, list_inside}

-- a property has a size byte that isn't 0
property_some : (memory : List ℕ) (at : ℕ) → is_property memory at ≡ true → byte_at memory at ≢ 0
property_some memory at is e = absurd (let none : is_property memory at ≡ false = rw e refl in cc)

no_property : (memory : List ℕ) (at : ℕ) → length memory ≤ at → is_property memory at ≡ false
no_property memory at outside = by (is_property memory at) refl
  where
    by : (b : Bool) → is_property memory at ≡ b → b ≡ false
    by true is = let inside = property_inside memory at is in absurd (omega (arith, inside.0, inside.1, outside))
    by false is = refl

-- ---- the data of a property that is found

found_data : (memory : List ℕ) (most at number p : ℕ) (property : Property) → find (has_number number) (first_properties most memory at) ≡ Some property → IsDataByte property p → IsDataPlace memory p at
unfolding first_properties
found_data memory zero at number p property e inside = absurd cc
found_data memory (suc most) at number p property e inside = by (is_property memory at) refl (found_data memory most (data_end memory at) number p property) e
  where
    found : (b : Bool) → is_property memory at ≡ true → (find (has_number number) (first_properties most memory (data_end memory at)) ≡ Some property → IsDataByte property p → IsDataPlace memory p (data_end memory at)) → (if b then Some (property_there memory at) else find (has_number number) (first_properties most memory (data_end memory at))) ≡ Some property → IsDataPlace memory p at
    found true is rest e = in_data at (property_some memory at is) (subst (λ (x : Property). IsDataByte x p) (sym (same_Some (property_there memory at) property e)) inside)
    found false is rest e = in_rest at (property_some memory at is) (rest e inside)

    by : (b : Bool) → is_property memory at ≡ b → (find (has_number number) (first_properties most memory (data_end memory at)) ≡ Some property → IsDataByte property p → IsDataPlace memory p (data_end memory at)) → find (has_number number) (if b then property_there memory at ∷ first_properties most memory (data_end memory at) else []) ≡ Some property → IsDataPlace memory p at
    by true is rest e = found (has_number number (property_there memory at)) is rest e
    by false is rest e = absurd cc

pub property_data : (story : LoadedStory) (object number p : ℕ) (property : Property) → 1 ≤ object → object ≤ story.objects → property_of story.memory object number ≡ Some property → IsDataByte property p → IsPropertyData story p
property_data story object number p property first last e inside = record {
  object = object;
  first = first;
  last = last;
  inside = found_data story.memory (readable_end story.memory) (list_place story.memory (property_table story.memory object)) number p property (subst (λ (b : Bool). find (has_number number) (if b then [] else properties_from story.memory (list_place story.memory (property_table story.memory object))) ≡ Some property) (no_zero object first) e) inside;
}

-- it lies in dynamic memory, behind the header
pub data_dynamic : (story : LoadedStory) → HasPropertyTables story → (p : ℕ) → IsPropertyData story p → (64 ≤ p) × (p < static_base story)
data_dynamic story tables p inside =
    let table = tables.tables inside.object inside.first inside.last in
    let later = data_behind story.memory p _ inside.inside in
    let above = table.above in
    (omega (arith, later, above), data_inside story.memory (static_base story) 32 _ p table.listed inside.inside)

-- and is fixed only where it is frozen
pub data_unfixed : (story : LoadedStory) (is_frozen : ℕ → Bool) → HasPropertyTables story → (p : ℕ) → IsPropertyData story p → is_frozen p ≡ false → IsClosed story is_frozen p → ⊥
data_unfixed story is_frozen tables p inside unfrozen (header h) = tables.data_open p inside (header h)
data_unfixed story is_frozen tables p inside unfrozen (a_global h) = tables.data_open p inside (a_global h)
data_unfixed story is_frozen tables p inside unfrozen (a_default h) = tables.data_open p inside (a_default h)
data_unfixed story is_frozen tables p inside unfrozen (an_entry h) = tables.data_open p inside (an_entry h)
data_unfixed story is_frozen tables p inside unfrozen (a_property h) = tables.data_open p inside (a_property h)
data_unfixed story is_frozen tables p inside unfrozen (an_abbreviation h) = tables.data_open p inside (an_abbreviation h)
data_unfixed story is_frozen tables p inside unfrozen (frozen e) = absurd cc
data_unfixed story is_frozen tables p inside unfrozen (static h) = tables.data_open p inside (static h)

-- what is frozen of it stays as it is
pub data_fixed : (story : LoadedStory) (is_frozen : ℕ → Bool) → HasPropertyTables story → (p : ℕ) → IsPropertyData story p → is_frozen p ≡ true → IsFixed story is_frozen p
data_fixed story is_frozen tables p inside is = record { closed = frozen is; unchanging = tables.data_still p inside }

-- ---- a memory whose fixed bytes are as loaded

module _ (story : LoadedStory) (is_frozen : ℕ → Bool) (sound : IsSound story.memory) (counted : IsObjectCount story.memory story.objects) (apart : (p : ℕ) → IsWithin (globals story) 480 p → IsWithin (object_table story) (62 + 9 * story.objects) p → ⊥) (tables : HasPropertyTables story)
    (now : List ℕ) (long : length now ≡ length story.memory) (same : (p : ℕ) → IsFixed story is_frozen p → byte_at now p ≡ byte_at story.memory p) where
  low_fixed : (p : ℕ) → p < 16 → IsFixed story is_frozen p
  low_fixed p low = record { closed = header (omega (arith, low), λ flags. omega (arith, flags.0, low)); unchanging = unchanged }
    where
      unchanged : IsChanging story p → ⊥
      unchanged (inl flags) = omega (arith, flags.0, low)
      unchanged (inr (inl a)) = let above = sound.globals_above in omega (arith, a.0, low, above)
      unchanged (inr (inr state)) = let above = sound.defaults_above in omega (arith, state.inside.0, low, above)

  place_same : header.object_table now ≡ object_table story
  place_same =
      let high = same 10 (low_fixed 10 (omega arith)) in
      let low = same 11 (low_fixed 11 (omega arith)) in
      rw (high, low) refl

  -- bytes of the object table that no instruction changes
  table_fixed : (p : ℕ) → IsClosed story is_frozen p → IsWithin (object_table story) (62 + 9 * story.objects) p → ((object : ℕ) → 1 ≤ object → object ≤ story.objects → IsWithin (object_place story.memory object) 7 p → ⊥) → IsFixed story is_frozen p
  table_fixed p closed inside other = record { closed = closed; unchanging = unchanged }
    where
      unchanged : IsChanging story p → ⊥
      unchanged (inl flags) = let above = sound.defaults_above in omega (arith, flags.1, inside.0, above)
      unchanged (inr (inl a)) = apart p a inside
      unchanged (inr (inr state)) = other state.object state.first state.last state.inside

  pointer_same : (object k : ℕ) → 1 ≤ object → object ≤ story.objects → 7 ≤ k → k < 9 → byte_at now (object_place story.memory object + k) ≡ byte_at story.memory (object_place story.memory object + k)
  pointer_same object k first last from below = same (object_place story.memory object + k) (table_fixed (object_place story.memory object + k)
      (an_entry (record { object = object; first = first; last = last; inside = (omega arith, omega (arith, below)) }))
      (omega arith, omega (arith, first, last, below))
      (λ other least most inside. omega (arith, first, least, from, below, inside.0, inside.1)))

  pub table_same : (object : ℕ) → 1 ≤ object → object ≤ story.objects → property_table now object ≡ property_table story.memory object
  table_same object first last =
      let place = place_same in
      let high = pointer_same object 7 first last (omega arith) (omega arith) in
      let low : byte_at now (object_place story.memory object + 7 + 1) ≡ byte_at story.memory (object_place story.memory object + 7 + 1) = subst (λ (k : ℕ). byte_at now k ≡ byte_at story.memory k) (omega arith) (pointer_same object 8 first last (omega arith) (omega arith)) in
      rw (place, high, low) refl

  pub default_same : (number : ℕ) → number < 32 → default_word now number ≡ default_word story.memory number
  default_same zero few = refl
  default_same (suc n) few =
      let there : (k : ℕ) → k < 2 → byte_at now (object_table story + 2 * (suc n - 1) + k) ≡ byte_at story.memory (object_table story + 2 * (suc n - 1) + k) = λ k small. same (object_table story + 2 * (suc n - 1) + k) (table_fixed (object_table story + 2 * (suc n - 1) + k)
      (a_default (omega arith, omega (arith, few, small)))
      (omega arith, omega (arith, few, small))
      (λ other least most inside. omega (arith, few, small, least, inside.0))) in
      let place = place_same in
      let high : byte_at now (object_table story + 2 * (suc n - 1)) ≡ byte_at story.memory (object_table story + 2 * (suc n - 1)) = subst (λ (k : ℕ). byte_at now k ≡ byte_at story.memory k) (omega arith) (there 0 (omega arith)) in
      let low = there 1 (omega arith) in
      rw (place, high, low) refl

  frame_same : (p : ℕ) → IsPropertyFrame story p → byte_at now p ≡ byte_at story.memory p
  frame_same p frame = same p (record { closed = a_property frame; unchanging = tables.frames_still p frame })

  -- ---- lists of properties

  step_same : (k at : ℕ) → byte_at now at ≡ byte_at story.memory at → (byte_at story.memory at ≢ 0 → first_properties k now (data_end story.memory at) ≡ first_properties k story.memory (data_end story.memory at)) → first_properties (suc k) now at ≡ first_properties (suc k) story.memory at
  unfolding first_properties
  step_same k at e rest = rw (e, long) (by (is_property story.memory at) refl)
    where
      by : (b : Bool) → is_property story.memory at ≡ b → (if b then property_there story.memory at ∷ first_properties k now (data_end story.memory at) else []) ≡ (if b then property_there story.memory at ∷ first_properties k story.memory (data_end story.memory at) else [])
      by true is = ap (λ (l : List Property). property_there story.memory at ∷ l) (rest (property_some story.memory at is))
      by false is = refl

  none_same : (k at : ℕ) → length story.memory ≤ at → first_properties (suc k) now at ≡ first_properties (suc k) story.memory at
  unfolding first_properties
  none_same k at outside =
      let one = no_property now at (omega (arith, long, outside)) in
      let other = no_property story.memory at outside in
      rw (one, other) refl

  list_same : (k at : ℕ) → ((p : ℕ) → IsSizePlace story.memory p at → byte_at now p ≡ byte_at story.memory p) → first_properties k now at ≡ first_properties k story.memory at
  unfolding first_properties
  list_same zero at sizes = refl
  list_same (suc k) at sizes = by (cases_lt at (length story.memory)) (λ some. list_same k (data_end story.memory at) (λ p there. sizes p (behind at some there)))
    where
      by : (at < length story.memory) ⊎ (length story.memory ≤ at) → (byte_at story.memory at ≢ 0 → first_properties k now (data_end story.memory at) ≡ first_properties k story.memory (data_end story.memory at)) → first_properties (suc k) now at ≡ first_properties (suc k) story.memory at
      by (inl inside) rest = step_same k at (sizes at (here at refl inside)) rest
      by (inr outside) rest = none_same k at outside

  length_same : (object : ℕ) → 1 ≤ object → object ≤ story.objects → byte_at now (property_table story.memory object) ≡ byte_at story.memory (property_table story.memory object)
  length_same object first last = frame_same (property_table story.memory object) (record { object = object; first = first; last = last; inside = inl (omega arith, omega arith) })

  pub properties_same : (object : ℕ) → 1 ≤ object → object ≤ story.objects → properties now object ≡ properties story.memory object
  properties_same object first last =
      let table = table_same object first last in
      let words = length_same object first last in
      let list = list_same (readable_end story.memory) (list_place story.memory (property_table story.memory object)) (λ p there. frame_same p (record { object = object; first = first; last = last; inside = inr there })) in
      rw (table, words, long, list) refl

  -- ---- short names

  -- a name stands in memory
  pub name_there : (object : ℕ) → 1 ≤ object → object ≤ story.objects → short_name story.memory object ≡ Outside → ⊥
  name_there object first last e =
      let table = property_table story.memory object in
      let below = list_inside story.memory (static_base story) 32 (list_place story.memory table) (tables.tables object first last).listed in
      let within = sound.static_base_within in
      by table (nat_lt table (length story.memory)) (nat_lt (table + 1) (length story.memory)) (lt-ltb table (length story.memory) (omega (arith, below, within))) (lt-ltb (table + 1) (length story.memory) (omega (arith, below, within))) (byte_at story.memory table == 0) (subst (λ (b : Bool). (if b then Empty else name_in story.memory (property_table story.memory object)) ≡ Outside) (no_zero object first) e)
    where
      by : (table : ℕ) (inside more : Bool) → inside ≡ true → more ≡ true → (empty : Bool) → (if inside then (if empty then Empty else (if more then At (table + 1) else Outside)) else Outside) ≡ Outside → ⊥
      by table true true i m true is = absurd cc
      by table true true i m false is = absurd cc
      by table false more i m empty is = absurd cc
      by table true false i m empty is = absurd cc

  pub name_same : (object : ℕ) → 1 ≤ object → object ≤ story.objects → short_name now object ≡ short_name story.memory object
  name_same object first last =
      let table = table_same object first last in
      let words = length_same object first last in
      rw (table, words, long) refl

  -- the text of a name: it ends where the table says
  pub name_text : (object at : ℕ) → 1 ≤ object → object ≤ story.objects → short_name story.memory object ≡ At at → (text : List ℕ) × (text_at now at ≡ Some text)
  name_text object at first last e =
      let table = property_table story.memory object in
      let place = at_name table (nat_lt table (length story.memory)) (byte_at story.memory table == 0) (nat_lt (table + 1) (length story.memory)) (subst (λ (b : Bool). (if b then Empty else name_in story.memory (property_table story.memory object)) ≡ At at) (no_zero object first) e) in
      let text = named_text table (tables.tables object first last).named place.1 in (
        text.0,
        subst (λ (p : ℕ). text_at now p ≡ Some text.0) (sym place.0) (text_at-same story.memory now (table + 1) text.0 long text.1 (λ p from below.
            frame_same p (record { object = object; first = first; last = last; inside = inl (omega (arith, from), omega (arith, below, text.2)) }))),
      )
    where
      at_name : (table : ℕ) (inside empty more : Bool) → (if inside then (if empty then Empty else (if more then At (table + 1) else Outside)) else Outside) ≡ At at → (at ≡ table + 1) × (empty ≡ false)
      at_name table true true more is = absurd cc
      at_name table true false true is = (cc, refl)
      at_name table true false false is = absurd cc
      at_name table false empty more is = absurd cc

      found_text : (table : ℕ) (found : Option (List ℕ)) → text_at story.memory (table + 1) ≡ found → option_map length found ≡ Some (2 * byte_at story.memory table) → (text : List ℕ) × (text_at story.memory (table + 1) ≡ Some text) × (length text ≡ 2 * byte_at story.memory table)
      found_text table None is size = absurd cc
      found_text table (Some text) is size = (text, is, same_Some (length text) (2 * byte_at story.memory table) size)

      named_text : (table : ℕ) → HasName story.memory table → (byte_at story.memory table == 0) ≡ false → (text : List ℕ) × (text_at story.memory (table + 1) ≡ Some text) × (length text ≡ 2 * byte_at story.memory table)
      named_text table (inl none) some = absurd (let z : (byte_at story.memory table == 0) ≡ true = rw none refl in cc)
      named_text table (inr size) some = found_text table (text_at story.memory (table + 1)) refl size
