-- Whatever is answered lies in the set of answers.
use Rattle.std.proofs.Common.{◌≡◌, ◌⊎◌, inl, inr, ℕ, ◌+◌, ◌-◌, ◌*◌, ◌<◌, ◌≤◌, ◌≤ℤ◌, Bool, true, false, ◌==◌, ◌&&◌, ◌||◌, if◌then◌else◌, List, Option, Some, None, Result, Ok, Err, refl, sym, subst, ap, ◌∙◌, arith}
use Rattle.std.specs.Prelude.{is_some, MatchOption, IfSome, IsTrue, unwrap_or, map}
use Rattle.std.specs.List.{list_all}
use Rattle.std.proofs.lemmas.Bool.{cases_lt, ne_eqb, eqb-true}
use Rattle.std.proofs.lemmas.Int.{ints}
use Rattle.zstory.specs.Bytes.{AreBytes, byte_at, word_at}
use Rattle.zstory.specs.Header.{object_table}
use Rattle.zword.specs.Binary.{signed}
use Rattle.zdomain.specs.Domain.{SetOperations, AreSound, In}
use Rattle.zobj.specs.declared.error.ObjectError.TheVariants.{AbsentProperty, PropertyTooLong}
use Rattle.zobj.specs.declared.property.Property.{Property}
use Rattle.zobj.specs.declared.answers.PropertyQuestion.{PropertyQuestion}
use Rattle.zobj.specs.declared.answers.PropertyQuestion.TheVariants.{Value, Address, Next}
use Rattle.zobj.specs.Properties.{properties, property_of, next_in}
use Rattle.zobj.specs.Values.{default_word, value_of, value_or_default}
use Rattle.zobj.specs.Answers.{address_of, answer_of, if_there, is_property_number}
use Rattle.zplace.specs.Bytes.{IsFixed}
use Rattle.zpairs.specs.declared.ends.Ends.{Ends}
use Rattle.zpairs.specs.Frozen.{FrozenStory, frozen_by}
use Rattle.zdomain.specs.Few.{turned, is_among, gathered, none_gathered}
use Rattle.zdomain.specs.FewLaw.{all_new}
use Rattle.zpairs.specs.Ends.{exactly, a_byte, any_word, no_word, byte_ends, word_ends, data_ends, value_ends}
use Rattle.zpairs.specs.Fixed.{is_fixed}
use Rattle.zpairs.specs.Cells.{cell_at}
use Rattle.zpairs.specs.Pairs.{may_have, may_exceed, is_asked, answer_ends, pair_ends, number_ends, object_ends, all_ends, between_ends, hull, hull_answers, column, columns, ends_of, pairs, is_exact, word_of, column_words, told_words, known_answers, answers}
use Rattle.zpairs.specs.Members.{both}
use Rattle.zpairs.proofs.Listed.{one_pair, among_map}
use Rattle.zpairs.proofs.Telling.{fixed_is}
use Rattle.zpairs.proofs.Found.{found_small, none_above, next_below}
use Rattle.zpairs.proofs.Hulls.{IsInside, IsPlace, inside_all, places_below}

same_Ok : {E : Type 0} (a b : ℕ) → ◌≡◌ {A = Result ℕ E} (Ok a) (Ok b) → a ≡ b
same_Ok a b e = cc

-- ---- the order of signed readings

pub low_end : (least v : ℕ) → v < 65536 → least ≤ turned v → signed (turned least) ≤ℤ signed v
low_end least v word above = grind (arith, ints)

pub high_end : (greatest v : ℕ) → v < 65536 → greatest < 65536 → turned v ≤ greatest → signed v ≤ℤ signed (turned greatest)
high_end greatest v word few below = grind (arith, ints)

-- ---- ends of one answer

pub exact : (v word : ℕ) → v ≡ word → IsInside (exactly word) (turned v)
exact v word same = record { above = omega (arith, same); below = omega (arith, same) }

any_inside : (v : ℕ) → IsInside any_word (turned v)
any_inside v = record { above = omega arith; below = omega arith }

byte_inside : (v : ℕ) → v < 256 → IsInside a_byte (turned v)
byte_inside v few = record { above = omega (arith, few); below = omega (arith, few) }

-- the value is a word, and its place lies between ends
abbrev IsWordInside : Ends → ℕ → Type 0
IsWordInside ends v = (v < 65536) × IsInside ends (turned v)

module _ (fixed : ℕ → Bool) (memory now : List ℕ) (bytes : AreBytes now) (same : (p : ℕ) → fixed p ≡ true → byte_at now p ≡ byte_at memory p) where
  of_byte : (at v : ℕ) → byte_at now at ≡ v → IsWordInside (byte_ends fixed memory at) v
  of_byte at v is = (let few = bytes at in omega (arith, few, is), by (fixed at) refl)
    where
      by : (b : Bool) → fixed at ≡ b → IsInside (if b then exactly (byte_at memory at) else a_byte) (turned v)
      by true e = exact v (byte_at memory at) (sym is ∙ same at e)
      by false e = byte_inside v (let few = bytes at in omega (arith, few, is))

  of_word : (at v : ℕ) → word_at now at ≡ v → IsWordInside (word_ends fixed memory at) v
  of_word at v is = (let high = bytes at in let low = bytes (at + 1) in omega (arith, high, low, is), by (fixed at) (fixed (at + 1)) refl refl)
    where
      by : (a b : Bool) → fixed at ≡ a → fixed (at + 1) ≡ b → IsInside (if a && b then exactly (word_at memory at) else any_word) (turned v)
      by true true e f = exact v (word_at memory at) (let high = same at e in let low = same (at + 1) f in omega (arith, high, low, is))
      by true false e f = any_inside v
      by false b e f = any_inside v

  of_data : (property : Property) (v : ℕ) → value_of now property ≡ Ok v → IsWordInside (data_ends fixed memory property) v
  of_data property v = by (property.length == 1) (property.length == 2)
    where
      by : (one two : Bool) → (if one then Ok (byte_at now property.place) else (if two then Ok (word_at now property.place) else Err PropertyTooLong)) ≡ Ok v → IsWordInside (if one then byte_ends fixed memory property.place else (if two then word_ends fixed memory property.place else any_word)) v
      by true two e = of_byte property.place v (same_Ok _ _ e)
      by false true e = of_word property.place v (same_Ok _ _ e)
      by false false e = absurd cc

  default_small : (number : ℕ) → default_word now number < 65536
  default_small number = by (number == 0)
    where
      by : (b : Bool) → (if b then 0 else word_at now (object_table now + 2 * (number - 1))) < 65536
      by true = omega arith
      by false = let high = bytes (object_table now + 2 * (number - 1)) in let low = bytes (object_table now + 2 * (number - 1) + 1) in omega (arith, high, low)

  of_value : (number : ℕ) (found : Option Property) (v : ℕ) → default_word now number ≡ default_word memory number → value_or_default now number found ≡ Ok v → IsWordInside (value_ends fixed memory number found) v
  of_value number None v default e = let is : default_word now number ≡ v = same_Ok _ _ e in (let small = default_small number in omega (arith, small, is), exact v (default_word memory number) (sym is ∙ default))
  of_value number (Some property) v default e = of_data property v e

-- ---- all ends are places of words

exactly_place : (word : ℕ) → IsPlace (exactly word)
exactly_place word = omega arith

data_place : (fixed : ℕ → Bool) (memory : List ℕ) (property : Property) → IsPlace (data_ends fixed memory property)
data_place fixed memory property = by (property.length == 1) (property.length == 2) (fixed property.place) (fixed property.place && fixed (property.place + 1))
  where
    by : (one two a b : Bool) → IsPlace (if one then (if a then exactly (byte_at memory property.place) else a_byte) else (if two then (if b then exactly (word_at memory property.place) else any_word) else any_word))
    by true two true b = exactly_place (byte_at memory property.place)
    by true two false b = omega arith
    by false true a true = exactly_place (word_at memory property.place)
    by false true a false = omega arith
    by false false a b = omega arith

value_place : (fixed : ℕ → Bool) (memory : List ℕ) (number : ℕ) (found : Option Property) → IsPlace (value_ends fixed memory number found)
value_place fixed memory number None = exactly_place (default_word memory number)
value_place fixed memory number (Some property) = data_place fixed memory property

answer_place : (told : FrozenStory) (question : PropertyQuestion) (x n : ℕ) → IsPlace (answer_ends question (cell_at told x n))
answer_place told Value x n = by (is_property_number n)
  where
    by : (b : Bool) → IsPlace (if b then value_ends (is_fixed told) told.story.memory n (property_of told.story.memory x n) else no_word)
    by true = value_place (is_fixed told) told.story.memory n (property_of told.story.memory x n)
    by false = omega arith
answer_place told Address x n = exactly_place (address_of (property_of told.story.memory x n))
answer_place told Next x n = omega arith

-- ---- sets

module _ {V : Type 0} (o : SetOperations V) (sound : AreSound o) where
  some_of : (m : Option V) (x : ℕ) → MatchOption m ⊥ (λ c. In o c x) → is_some m ≡ true
  some_of None x h = absurd h
  some_of (Some c) x h = refl

  -- a set may have what it has
  pub may : (a : V) (x : ℕ) → In o a x → may_have o a x ≡ true
  may a x has = some_of (o.meet a (o.single x)) x (sound.meet a (o.single x) x has (sound.single x has.word))

  either : (a b : Bool) → (a ≡ true) ⊎ (b ≡ true) → (a || b) ≡ true
  either true b e = refl
  either false b (inl e) = absurd cc
  either false b (inr e) = e

  exceeds : (a : V) (n : ℕ) → 32 ≤ n → In o a n → may_exceed o a ≡ true
  exceeds a n above has = either (is_some (o.meet a (o.between 32 32767))) (is_some (o.meet a (o.between 32768 65535))) (by_sign (cases_lt n 32768))
    where
      word : n < 65536
      word = has.word

      by_sign : (n < 32768) ⊎ (32768 ≤ n) → (is_some (o.meet a (o.between 32 32767)) ≡ true) ⊎ (is_some (o.meet a (o.between 32768 65535)) ≡ true)
      by_sign (inl low) = inl (some_of (o.meet a (o.between 32 32767)) n (sound.meet a (o.between 32 32767) n has (sound.between 32 32767 n (omega (arith, ints, above, low)) (omega (arith, ints, above, low)) word)))
      by_sign (inr high) = inr (some_of (o.meet a (o.between 32768 65535)) n (sound.meet a (o.between 32768 65535) n has (sound.between 32768 65535 n (grind (arith, ints, high, word)) (grind (arith, ints, high, word)) word)))

  asked : (numbers : V) (n : ℕ) → n < 32 → In o numbers n → is_asked o numbers n ≡ true
  asked numbers n few has = let other = ne_eqb n 32 (λ e. omega (arith, e, few)) in let e = may numbers n has in rw (other, e) refl

  others_asked : (numbers : V) (n : ℕ) → 32 ≤ n → In o numbers n → is_asked o numbers 32 ≡ true
  others_asked numbers n above has = exceeds numbers n above has

  module _ (told : FrozenStory) (question : PropertyQuestion) (objects numbers : V) (x : ℕ) where
    -- what lies between the ends of an object and a number that may be asked for lies between all
    pair_inside : (n place : ℕ) → is_asked o numbers n ≡ true → IsInside (answer_ends question (cell_at told x n)) place → IsInside (pair_ends o told question numbers x n) place
    pair_inside n place is inside = rw is inside

    object_inside : (n place : ℕ) → n < 33 → In o objects x → is_asked o numbers n ≡ true → IsInside (answer_ends question (cell_at told x n)) place → IsInside (object_ends o told question objects numbers x) place
    object_inside n place few has is inside =
        let e = may objects x has in
        let all = inside_all 33 (pair_ends o told question numbers x) n place few (pair_inside n place is inside) in
        rw e all

    pub all_inside : (n place : ℕ) → n < 33 → 1 ≤ x → x ≤ told.story.objects → In o objects x → is_asked o numbers n ≡ true → IsInside (answer_ends question (cell_at told x n)) place → IsInside (all_ends o told question objects numbers) place
    all_inside n place few first last has is inside =
        let same : x ≡ x - 1 + 1 = omega (arith, first) in
        inside_all told.story.objects (λ below. object_ends o told question objects numbers (below + 1)) (x - 1) place (omega (arith, first, last)) (subst (λ (y : ℕ). IsInside (object_ends o told question objects numbers y) place) same (object_inside n place few has is inside))

  module _ (told : FrozenStory) (question : PropertyQuestion) (objects numbers : V) where
    pair_place : (x n : ℕ) → IsPlace (pair_ends o told question numbers x n)
    pair_place x n = by (is_asked o numbers n)
      where
        by : (b : Bool) → IsPlace (if b then answer_ends question (cell_at told x n) else no_word)
        by true = answer_place told question x n
        by false = omega arith

    object_place : (x : ℕ) → IsPlace (object_ends o told question objects numbers x)
    object_place x = by (may_have o objects x)
      where
        by : (b : Bool) → IsPlace (if b then number_ends o told question numbers x else no_word)
        by true = places_below (pair_ends o told question numbers x) (pair_place x) 33
        by false = omega arith

    all_place : IsPlace (all_ends o told question objects numbers)
    all_place = places_below (λ below. object_ends o told question objects numbers (below + 1)) (λ below. object_place (below + 1)) told.story.objects

    pub lies_between : (v : ℕ) → v < 65536 → IsInside (all_ends o told question objects numbers) (turned v) → In o (between_ends o (all_ends o told question objects numbers)) v
    lies_between v word inside =
        let ends = all_ends o told question objects numbers in
        sound.between (turned ends.least) (turned ends.greatest) v (low_end ends.least v word inside.above) (high_end ends.greatest v word all_place inside.below) word

  -- ---- what is told, and what lies between hulls

  hull_has : (a : V) (x : ℕ) → In o a x → In o (hull o a) x
  hull_has a x has = sound.between (o.lowest a) (o.highest a) x (sound.lowest a x has) (sound.highest a x has) has.word

  column_asked : (numbers : V) (n : ℕ) → In o numbers n → is_asked o numbers (column n) ≡ true
  column_asked numbers n has = by_order (cases_lt n 32)
    where
      by_order : (n < 32) ⊎ (32 ≤ n) → is_asked o numbers (column n) ≡ true
      by_order (inl low) = let same : n ≡ column n = omega (arith, low) in subst (λ (k : ℕ). is_asked o numbers k ≡ true) same (asked numbers n low has)
      by_order (inr high) = let same : 32 ≡ column n = omega (arith, high) in subst (λ (k : ℕ). is_asked o numbers k ≡ true) same (others_asked numbers n high has)

  one_word : (ends : Ends) (v : ℕ) → v < 65536 → is_exact ends ≡ true → IsInside ends (turned v) → word_of ends ≡ v
  one_word ends v word e inside = let same = eqb-true ends.least ends.greatest e in let above = inside.above in let below = inside.below in omega (arith, same, above, below, word)

  module _ (told : FrozenStory) (question : PropertyQuestion) (objects numbers : V) (x n v : ℕ) (first : 1 ≤ x) (last : x ≤ told.story.objects) (has : In o objects x) (asked_for : In o numbers n) (word : v < 65536) (inside : IsInside (ends_of told question x n) (turned v)) where
    on_hulls : In o (hull_answers o told question objects numbers) v
    on_hulls = lies_between told question (hull o objects) (hull o numbers) v word (all_inside told question (hull o objects) (hull o numbers) x (column n) (turned v) (omega arith) first last (hull_has objects x has) (column_asked (hull o numbers) n (hull_has numbers n asked_for)) inside)

    among_pairs : (few columns : List ℕ) → IsTrue (is_among x few) → IsTrue (is_among (column n) columns) → list_all is_exact (pairs told question few columns) ≡ true → In o (o.packed (gathered (map word_of (pairs told question few columns)))) v
    among_pairs few columns of_few of_columns e =
        let one = one_pair told question columns few x (column n) first last of_few of_columns e in
        let once : column n ≡ column (column n) = omega arith in
        let there : IsInside (ends_of told question x (column n)) (turned v) = subst (λ (k : ℕ). IsInside (answer_ends question (cell_at told x k)) (turned v)) once inside in
        let is = one_word (ends_of told question x (column n)) v word one.exact there in
        let all = map word_of (pairs told question few columns) in
        sound.packed (gathered all) v (all_new all v none_gathered (omega arith) (subst (λ (w : ℕ). IsTrue (is_among w all)) is one.among)) word

    by_columns : (few : List ℕ) (columns : Option (List ℕ)) → IsTrue (is_among x few) → IfSome columns (λ all. IsTrue (is_among (column n) all)) → In o (unwrap_or (column_words o told question few columns) (hull_answers o told question objects numbers)) v
    by_columns few None of_few of_columns = on_hulls
    by_columns few (Some columns) of_few of_columns = by (list_all is_exact (pairs told question few columns)) refl
      where
        by : (b : Bool) → list_all is_exact (pairs told question few columns) ≡ b → In o (unwrap_or (if b then Some (o.packed (gathered (map word_of (pairs told question few columns)))) else None) (hull_answers o told question objects numbers)) v
        by true e = among_pairs few columns of_few of_columns e
        by false e = on_hulls

    by_lists : (few others : Option (List ℕ)) → ((words : List ℕ) → few ≡ Some words → IsTrue (is_among x words)) → ((words : List ℕ) → others ≡ Some words → IsTrue (is_among n words)) → In o (unwrap_or (told_words o told question (both few others)) (hull_answers o told question objects numbers)) v
    by_lists (Some xs) (Some ys) of_few of_others = by_columns xs (columns ys) (of_few xs refl) (all_new (map column ys) (column n) none_gathered (omega arith) (among_map column ys n (of_others ys refl))).few
    by_lists (Some xs) None of_few of_others = on_hulls
    by_lists None others of_few of_others = on_hulls

    -- what lies between the ends of a pair is answered
    pub lies : In o (known_answers o told question objects numbers) v
    lies = by_lists (o.few objects) (o.few numbers) (λ words e. sound.few objects words x e has) (λ words e. sound.few numbers words n e asked_for)

  -- ---- answers

  pub value_lies : (told : FrozenStory) (now : List ℕ) (objects numbers : V) (x n v : ℕ) → 1 ≤ x → x ≤ told.story.objects → In o objects x → In o numbers n → property_of now x n ≡ property_of told.story.memory x n → default_word now n ≡ default_word told.story.memory n
      → ((p : ℕ) → IsFixed told.story (frozen_by told.ranges) p → byte_at now p ≡ byte_at told.story.memory p) → AreBytes now → answer_of Value now x n ≡ Ok v → In o (answers o told Value objects numbers) v
  value_lies told now objects numbers x n v first last has asked_for found default fixed bytes = by (is_property_number n) refl
    where
      found_as : value_or_default now n (property_of now x n) ≡ Ok v → value_or_default now n (property_of told.story.memory x n) ≡ Ok v
      found_as = subst (λ (f : Option Property). value_or_default now n f ≡ Ok v) found

      by : (b : Bool) → is_property_number n ≡ b → (if b then value_or_default now n (property_of now x n) else Err AbsentProperty) ≡ Ok v → In o (known_answers o told Value objects numbers) v
      by false is e = absurd cc
      by true is e =
          let small : n < 32 = grind (arith, is) in
          let inside = of_value (is_fixed told) told.story.memory now bytes (λ p e. fixed p ((fixed_is told p).0 e)) n (property_of told.story.memory x n) v default (found_as e) in
          let of_cell : IsInside (answer_ends Value (cell_at told x n)) (turned v) = rw is inside.1 in
          let same : n ≡ column n = omega (arith, small) in
          lies told Value objects numbers x n v first last has asked_for inside.0 (subst (λ (k : ℕ). IsInside (answer_ends Value (cell_at told x k)) (turned v)) same of_cell)

  address_word : (memory : List ℕ) (x n : ℕ) → address_of (property_of memory x n) < 65536
  address_word memory x n = by (property_of memory x n) refl
    where
      by : (found : Option Property) → property_of memory x n ≡ found → address_of found < 65536
      by None e = omega arith
      by (Some property) e = (found_small memory x n property e).0.place

  pub address_lies : (told : FrozenStory) (now : List ℕ) (objects numbers : V) (x n v : ℕ) → 1 ≤ x → x ≤ told.story.objects → In o objects x → In o numbers n → property_of now x n ≡ property_of told.story.memory x n → answer_of Address now x n ≡ Ok v → In o (answers o told Address objects numbers) v
  address_lies told now objects numbers x n v first last has asked_for found e = by_order (cases_lt n 32)
    where
      is : v ≡ address_of (property_of told.story.memory x n)
      is = sym (same_Ok _ _ e) ∙ ap address_of found

      word : v < 65536
      word = let small = address_word told.story.memory x n in omega (arith, is, small)

      in_column : (k : ℕ) → k ≡ column n → v ≡ address_of (property_of told.story.memory x k) → In o (known_answers o told Address objects numbers) v
      in_column k same here = lies told Address objects numbers x n v first last has asked_for word (subst (λ (m : ℕ). IsInside (answer_ends Address (cell_at told x m)) (turned v)) same (exact v (address_of (property_of told.story.memory x k)) here))

      by_order : (n < 32) ⊎ (32 ≤ n) → In o (known_answers o told Address objects numbers) v
      by_order (inl low) = in_column n (omega (arith, low)) is
      by_order (inr high) = in_column 32 (omega (arith, high)) (is ∙ ap address_of (none_above told.story.memory x n high ∙ sym (none_above told.story.memory x 32 (omega arith))))

  pub next_lies : (told : FrozenStory) (now : List ℕ) (objects numbers : V) (x n v : ℕ) → answer_of Next now x n ≡ Ok v → In o (answers o told Next objects numbers) v
  next_lies told now objects numbers x n v e = by (next_in (properties now x) n) refl e
    where
      by : (found : Option ℕ) → next_in (properties now x) n ≡ found → if_there found ≡ Ok v → In o (o.between 0 31) v
      by None is e = absurd cc
      by (Some next) is e =
          let small = next_below now x n next is in
          let same : next ≡ v = same_Ok _ _ e in
          let few : v < 32 = omega (arith, small, same) in
          sound.between 0 31 v (omega (arith, ints, few)) (omega (arith, ints, few)) (omega (arith, few))
