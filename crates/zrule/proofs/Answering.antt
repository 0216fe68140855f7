-- What objects answer about their properties in a memory that claims describe.
use Rattle.std.proofs.Common.{◌≡◌, ◌⊎◌, inl, inr, ℕ, zero, suc, ◌+◌, ◌/◌, ◌%◌, ◌<◌, ◌≤◌, nat_lt, nat_le, Bool, true, false, if◌then◌else◌, List, length, Option, Some, None, Result, Ok, Err, refl, sym, ap, subst, ◌∙◌, arith}
use Rattle.std.specs.Prelude.{slice_set, ◌==◌, ◌&&◌, IfOk, IsOk, IsTrue, is_some}
use Rattle.std.specs.List.{find}
use Rattle.std.proofs.lemmas.Bool.{ltb-true, lt-ltb, le-leb}
use Rattle.zstory.specs.Bytes.{AreBytes, byte_at, word_at, readable_end}
use Rattle.zstory.specs.LoadedStory.{LoadedStory, static_base}
use Rattle.zobj.specs.declared.error.ObjectError.{ObjectError}
use Rattle.zobj.specs.declared.error.ObjectError.TheVariants.{AbsentProperty, PropertyTooLong}
use Rattle.zobj.specs.declared.name.ShortName.{ShortName}
use Rattle.zobj.specs.declared.name.ShortName.TheVariants.{Empty, At, Outside}
use Rattle.zobj.specs.declared.property.Property.{Property}
use Rattle.zobj.specs.declared.answers.PropertyQuestion.{PropertyQuestion}
use Rattle.zobj.specs.declared.answers.PropertyQuestion.TheVariants.{Value, Address, Next}
use Rattle.zobj.specs.Answers.{answer_of, address_of, if_there, is_property_number}
use Rattle.zobj.specs.Kept.{DiffersOnly}
use Rattle.zobj.specs.Names.{short_name}
use Rattle.zobj.specs.Properties.{data_length, has_number, next_in, properties, property_of}
use Rattle.zobj.specs.Values.{IsDataByte, default_word, length_before, property_value, value_or_default, with_found, with_property, with_value}
use Rattle.zobj.proofs.Puts.{value_differs}
use Rattle.ztext.specs.Output.{output_at}
use Rattle.ztext.proofs.Printable.{output_at-ok}
use Rattle.zdomain.specs.Domain.{SetOperations, AreSound, In}
use Rattle.zstate.specs.Step.{are_writable, is_data_writable, is_writable}
use Rattle.zplace.proofs.Staying.{data_dynamic, default_same, name_same, name_text, name_there, properties_same, property_data}
use Rattle.zpairs.specs.Pairs.{answers}
use Rattle.zpairs.proofs.Lying.{value_lies, address_lies, next_lies}
use Rattle.zrule.specs.Claims.{Claims, frozen_in, told_of}
use Rattle.zrule.specs.Rules.{SupportsWhere}
use Rattle.zrule.specs.Described.{DescribedMemory, IsLoadedStory}
use Rattle.zrule.proofs.Unchanged.{abbreviation_same}

-- what is answered
pub of_ok : {A : Type 0} (r : Result A ObjectError) → IsOk r → (x : A) × (r ≡ Ok x)
of_ok (Ok x) ok = (x, refl)
of_ok (Err e) ok = absurd cc

-- a place behind the header in dynamic memory may be written
writable_there : (story : LoadedStory) (p : ℕ) → 64 ≤ p → p < static_base story → is_writable story p ≡ true
writable_there story p above below =
    let one = lt-ltb p (static_base story) below in
    let other = le-leb 64 p above in
    rw (one, other) refl

run_there : (story : LoadedStory) (n p : ℕ) → ((q : ℕ) → p ≤ q → q < p + n → (64 ≤ q) × (q < static_base story)) → are_writable story p n ≡ true
unfolding are_writable
run_there story zero p each = refl
run_there story (suc n) p each =
    let here = each p (omega arith) (omega arith) in
    let first = writable_there story p here.0 here.1 in
    let rest = run_there story n (p + 1) (λ q from below. each q (omega (arith, from)) (omega (arith, below))) in
    rw (first, rest) refl

module _ {V : Type 0} (o : SetOperations V) (lawful : AreSound o) (claims : Claims V) (story : LoadedStory) (loaded : IsLoadedStory story) {marked : ℕ → Bool} (supports : SupportsWhere o claims marked story) (now : List ℕ) (d : DescribedMemory o claims story now) (object : ℕ) (first : 1 ≤ object) (last : object ≤ story.objects) where
  list_same : properties now object ≡ properties story.memory object
  list_same = properties_same story (frozen_in claims) loaded.sound loaded.counted supports.tables.apart supports.properties now d.long d.fixed object first last

  pub found_same : (number : ℕ) → property_of now object number ≡ property_of story.memory object number
  found_same number = ap (find (has_number number)) list_same

  -- ---- a question has an answer, since it had one

  by_length : (property : Property) (one two : Bool) → IsOk (if one then Ok (byte_at story.memory property.place) else (if two then Ok (word_at story.memory property.place) else Err PropertyTooLong)) → (x : ℕ) × ((if one then Ok (byte_at now property.place) else (if two then Ok (word_at now property.place) else Err PropertyTooLong)) ≡ Ok x)
  by_length property true two ok = (byte_at now property.place, refl)
  by_length property false true ok = (word_at now property.place, refl)
  by_length property false false ok = absurd cc

  by_found : (number : ℕ) (b : Bool) (found : Option Property) → IsOk (if b then value_or_default story.memory number found else Err AbsentProperty) → (x : ℕ) × ((if b then value_or_default now number found else Err AbsentProperty) ≡ Ok x)
  by_found number true None ok = (default_word now number, refl)
  by_found number true (Some property) ok = by_length property (property.length == 1) (property.length == 2) ok
  by_found number false found ok = absurd cc

  next_same : (number : ℕ) → answer_of Next now object number ≡ answer_of Next story.memory object number
  next_same number = ap (λ (list : List Property). if_there (next_in list number)) list_same

  pub answered : (question : PropertyQuestion) (number : ℕ) → IsOk (answer_of question story.memory object number) → (x : ℕ) × (answer_of question now object number ≡ Ok x)
  answered Value number ok = subst (λ (found : Option Property). (x : ℕ) × ((if is_property_number number then value_or_default now number found else Err AbsentProperty) ≡ Ok x)) (sym (found_same number)) (by_found number (is_property_number number) (property_of story.memory object number) ok)
  answered Address number ok = (address_of (property_of now object number), refl)
  answered Next number ok = let was = of_ok (answer_of Next story.memory object number) ok in (was.0, next_same number ∙ was.1)

  -- a value is asked of a number from 1 to 31
  number_low : (number x : ℕ) → answer_of Value now object number ≡ Ok x → number < 32
  number_low number x e = by (nat_le 1 number) (nat_lt number 32) refl e
    where
      by : (a b : Bool) → nat_lt number 32 ≡ b → (if a && b then property_value now object number else Err AbsentProperty) ≡ Ok x → number < 32
      by true true is e = ltb-true number 32 is
      by true false is e = absurd cc
      by false b is e = absurd cc

  -- ---- it lies in the set of the answers

  pub answer_lies : AreBytes now → (question : PropertyQuestion) (objects numbers : V) (number x : ℕ) → In o objects object → In o numbers number → answer_of question now object number ≡ Ok x → In o (answers o (told_of claims story) question objects numbers) x
  answer_lies are Value objects numbers number x in_objects in_numbers e =
      let same = default_same story (frozen_in claims) loaded.sound loaded.counted supports.tables.apart supports.properties now d.long d.fixed number (number_low number x e) in
      value_lies o lawful (told_of claims story) now objects numbers object number x first last in_objects in_numbers (found_same number) same d.fixed are e
  answer_lies are Address objects numbers number x in_objects in_numbers e =
      address_lies o lawful (told_of claims story) now objects numbers object number x first last in_objects in_numbers (found_same number) e
  answer_lies are Next objects numbers number x in_objects in_numbers e =
      next_lies o lawful (told_of claims story) now objects numbers object number x e

  -- ---- a property is given a word

  pub record Filled (number word : ℕ) : Type 0 where
    pub property : Property
    pub found : property_of now object number ≡ Some property
    pub after : List ℕ
    pub is : with_property object number word now ≡ Ok after
    pub differs : DiffersOnly (IsDataByte property) now after
    pub writable : is_data_writable story (property_of now object number) ≡ true

  put_length : (property : Property) (word : ℕ) (one two : Bool) → IsOk (with_value 0 story.memory property) → (property.length == 1) ≡ one → (property.length == 2) ≡ two → (after : List ℕ) × (with_value word now property ≡ Ok after)
  put_length property word true two ok e f = (slice_set now property.place (word % 256), rw e refl)
  put_length property word false true ok e f = (slice_set (slice_set now property.place (word / 256)) (property.place + 1) (word % 256), rw (e, f) refl)
  put_length property word false false ok e f = absurd (let none : with_value 0 story.memory property ≡ Err PropertyTooLong = rw (e, f) refl in cc)

  filled_by : (number word : ℕ) (found : Option Property) → property_of story.memory object number ≡ found → IsOk (with_found 0 story.memory found) → Filled number word
  filled_by number word None was ok = absurd cc
  filled_by number word (Some property) was ok =
      let there = λ (p : ℕ) (inside : IsDataByte property p). property_data story object number p property first last was inside in
      let put = put_length property word (property.length == 1) (property.length == 2) ok refl refl in
      let found : property_of now object number ≡ Some property = found_same number ∙ was in
      record {
        property = property;
        found = found;
        after = put.0;
        is = ap (with_found word now) found ∙ put.1;
        differs = subst (λ (r : Result (List ℕ) ObjectError). IfOk r (DiffersOnly (IsDataByte property) now)) put.1 (value_differs now word property);
        writable = ap (is_data_writable story) found ∙ run_there story property.length property.place (λ q from below. data_dynamic story supports.properties q (there q (from, below)));
      }

  pub filled : (number word : ℕ) → IsOk (with_property object number 0 story.memory) → Filled number word
  filled number word ok = filled_by number word (property_of story.memory object number) refl ok

  -- ---- a short name prints

  pub name_printed : (name : ShortName) → short_name now object ≡ name → (name ≡ Empty) ⊎ ((at : ℕ) × (bytes : List ℕ) × (name ≡ At at) × (output_at now at ≡ Ok bytes))
  name_printed Empty is = inl refl
  name_printed (At at) is =
      let was : short_name story.memory object ≡ At at = sym (name_same story (frozen_in claims) loaded.sound loaded.counted supports.tables.apart supports.properties now d.long d.fixed object first last) ∙ is in
      let text = name_text story (frozen_in claims) loaded.sound loaded.counted supports.tables.apart supports.properties now d.long d.fixed object at first last was in
      let printed = of_printed (output_at now at) (output_at-ok now at text.0 (λ n few. abbreviation_same story loaded.sound loaded.counted (frozen_in claims) now d.long d.fixed supports.abbreviations n few) text.1) in
      inr (at, printed.0, refl, printed.1)
    where
      of_printed : {E : Type 0} (r : Result (List ℕ) E) → IsOk r → (bytes : List ℕ) × (r ≡ Ok bytes)
      of_printed (Ok bytes) ok = (bytes, refl)
      of_printed (Err e) ok = absurd cc
  name_printed Outside is =
      absurd (name_there story (frozen_in claims) loaded.sound loaded.counted supports.tables.apart supports.properties now d.long d.fixed object first last (sym (name_same story (frozen_in claims) loaded.sound loaded.counted supports.tables.apart supports.properties now d.long d.fixed object first last) ∙ is))

-- ---- a length is read

-- where a size byte could be read, it can be read in a memory as long
pub length_there : (story : LoadedStory) (now : List ℕ) → length now ≡ length story.memory → (address : ℕ) → IsTrue (is_some (length_before story.memory address)) → (n : ℕ) × (length_before now address ≡ Some n)
length_there story now long zero there = (0, refl)
length_there story now long (suc at) there = by (nat_lt at (readable_end story.memory)) refl there
  where
    by : (b : Bool) → nat_lt at (readable_end story.memory) ≡ b → IsTrue (is_some (if b then Some (data_length (byte_at story.memory at)) else None)) → (n : ℕ) × (length_before now (suc at) ≡ Some n)
    by true is t = (data_length (byte_at now at), rw (long, is) refl)
    by false is t = absurd cc
