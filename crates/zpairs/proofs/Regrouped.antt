-- Blocks of objects in the place of objects.
use Rattle.std.proofs.Common.{◌≡◌, ◌↔◌, ◌⊎◌, inl, inr, ℕ, zero, suc, ◌+◌, ◌-◌, ◌*◌, ◌/◌, ◌%◌, ◌<◌, ◌≤◌, Bool, true, false, ◌==◌, ◌&&◌, ◌||◌, if◌then◌else◌, List, length, Option, None, refl, sym, subst, ap, ◌∙◌, arith}
use Rattle.std.specs.Prelude.{IsTrue, nat_lt, slice_index_or, slice_set}
use Rattle.std.proofs.lemmas.Bool.{cases_lt, lt-ltb, ltb-true}
use Rattle.std.proofs.lemmas.List.{get_or-set_same, get_or-set_other}
use Rattle.zstory.specs.LoadedStory.{LoadedStory}
use Rattle.zcert.specs.declared.parts.Range.{Range}
use Rattle.zdomain.specs.Domain.{SetOperations, AreSound, In}
use Rattle.zobj.specs.declared.answers.PropertyQuestion.{PropertyQuestion}
use Rattle.zobj.specs.declared.answers.PropertyQuestion.TheVariants.{Value, Address, Next}
use Rattle.zobj.specs.declared.property.Property.{Property}
use Rattle.zobj.specs.Properties.{property_of}
use Rattle.zobj.specs.Answers.{is_property_number}
use Rattle.zpairs.specs.declared.ends.Ends.{Ends}
use Rattle.zpairs.specs.declared.cell.Cell.{Cell}
use Rattle.zpairs.specs.declared.cell.Test.{Test}
use Rattle.zpairs.specs.declared.cell.Test.TheVariants.{Answered, Put, Open}
use Rattle.zpairs.specs.Frozen.{FrozenStory}
use Rattle.zpairs.specs.Fixed.{is_closed, is_fixed}
use Rattle.zpairs.specs.Rows.{AreFound}
use Rattle.zpairs.specs.Ends.{joined, no_word}
use Rattle.zpairs.specs.Cells.{blank_cell, cell_at, cell_of, no_cell, merged, passes}
use Rattle.zpairs.specs.Pairs.{ends_below, may_have, is_asked, answer_ends, pair_ends, number_ends, object_ends, all_ends}
use Rattle.zpairs.specs.Blocks.{AreBlocks, merged_below, object_in, object_cell, place_cell, block_cell, EachInBlock, place_ends, block_ends, row_end}
use Rattle.zpairs.proofs.Each.{one_more_below}
use Rattle.zpairs.proofs.Lying.{may}

-- ---- the table

pub all_merged : (k m : ℕ) (f : ℕ → Cell) (cell : Cell) → k ≡ m → cell ≡ merged_below k f → cell ≡ merged_below m f
all_merged k m f cell same is = subst (λ (n : ℕ). cell ≡ merged_below n f) same is

pub one_more_cell : (cells : List Cell) (f : ℕ → Cell) (k : ℕ) (cell : Cell) → k < length cells → cell ≡ f k → ((j : ℕ) → j < k → slice_index_or cells j blank_cell ≡ f j) → (j : ℕ) → j < k + 1 → slice_index_or (slice_set cells k cell) j blank_cell ≡ f j
one_more_cell cells f k cell inside is before = one_more_below (λ j. slice_index_or (slice_set cells k cell) j blank_cell ≡ f j) k (λ j below. get_or-set_other cells k j cell blank_cell (λ e. omega (arith, e, below)) ∙ before j below) (get_or-set_same cells k cell blank_cell inside ∙ is)

pub one_more_found : (found : List (Option Property)) (f : ℕ → Option Property) (k : ℕ) (property : Option Property) → k < length found → property ≡ f k → ((j : ℕ) → j < k → slice_index_or found j None ≡ f j) → (j : ℕ) → j < k + 1 → slice_index_or (slice_set found k property) j None ≡ f j
one_more_found found f k property inside is before = one_more_below (λ j. slice_index_or (slice_set found k property) j None ≡ f j) k (λ j below. get_or-set_other found k j property None (λ e. omega (arith, e, below)) ∙ before j below) (get_or-set_same found k property None inside ∙ is)

pub one_merged : (k : ℕ) (f : ℕ → Cell) (cell next all : Cell) → cell ≡ merged_below k f → next ≡ f k → all ≡ merged cell next → all ≡ merged_below (k + 1) f
unfolding merged_below
one_merged k f cell next all is here e = let one : suc k ≡ k + 1 = omega arith in subst (λ (n : ℕ). all ≡ merged_below n f) one (rw (e, is, here) refl)

-- of no object there is nothing to know
none_there : (k : ℕ) (f : ℕ → Cell) → ((i : ℕ) → i < k → f i ≡ no_cell) → merged_below k f ≡ no_cell
unfolding merged_below
none_there zero f none = refl
none_there (suc k) f none = let before = none_there k f (λ i below. none i (omega (arith, below))) in let last = none k (omega arith) in rw (before, last) refl

module _ (told : FrozenStory) where
  pub no_block : (block number : ℕ) → told.story.objects ≤ 16 * block → no_cell ≡ block_cell told block number
  no_block block number few = sym (none_there 16 (place_cell told block number) (λ place near. by place (nat_lt (16 * block + place) told.story.objects) refl))
    where
      by : (place : ℕ) (b : Bool) → nat_lt (16 * block + place) told.story.objects ≡ b → (if b then cell_at told (16 * block + place + 1) number else no_cell) ≡ no_cell
      by place true e = absurd (let there = ltb-true (16 * block + place) told.story.objects e in omega (arith, there, few))
      by place false e = refl

  -- an object's property is read
  pub found_read : (found : List (Option Property)) (object number k : ℕ) → AreFound told.story found → 1 ≤ object → object ≤ told.story.objects → number < 33 → k ≡ 33 * (object - 1) + number → slice_index_or found k None ≡ property_of told.story.memory object number
  found_read found object number k are first last small at =
      let row : k / 33 + 1 ≡ object = omega (arith, at, small, first) in
      let column : k % 33 ≡ number = omega (arith, at, small) in
      are k (omega (arith, at, first, last, small)) ∙ ap (λ (x : ℕ). property_of told.story.memory x (k % 33)) row ∙ ap (property_of told.story.memory object) column

  -- what is known of an object, by its property
  pub cell_here : (found : List (Option Property)) (below number k : ℕ) (cell : Cell) → AreFound told.story found → below < told.story.objects → number < 33 → k ≡ 33 * below + number → cell ≡ cell_of (is_closed told) (is_fixed told) told.story.memory number (slice_index_or found k None) → cell ≡ object_cell told below number
  cell_here found below number k cell are inside small at e =
      let there : nat_lt below told.story.objects ≡ true = lt-ltb below told.story.objects inside in
      e ∙ ap (cell_of (is_closed told) (is_fixed told) told.story.memory number) (found_read found (below + 1) number k are (omega arith) (omega (arith, inside)) small (omega (arith, at))) ∙ sym (rw there refl)

-- what is known of an object's property, by a story and ranges that are these
pub cell_told : (told : FrozenStory) (story : LoadedStory) (ranges : List Range) (object number : ℕ) (found : Option Property) → story ≡ told.story → ranges ≡ told.ranges → found ≡ property_of told.story.memory object number → cell_of (is_closed (record { story = story; ranges = ranges })) (is_fixed (record { story = story; ranges = ranges })) story.memory number found ≡ cell_at told object number
cell_told told story ranges object number found same alike is = rw (same, alike, is) refl

-- a block is read
pub block_read : (told : FrozenStory) (cells : List Cell) (block number k : ℕ) → AreBlocks told cells → block < 16 → number ≤ 32 → k ≡ 33 * block + number → slice_index_or cells k blank_cell ≡ block_cell told block number
block_read told cells block number k are few small at =
    let row : k / 33 ≡ block = omega (arith, at, small) in
    let column : k % 33 ≡ number = omega (arith, at, small) in
    are k (omega (arith, few, small, at))
    ∙ ap (λ (b : ℕ). block_cell told b (k % 33)) row
    ∙ ap (block_cell told block) column

-- ---- tests of merged cells

and_both : (a b : Bool) → IsTrue (a && b) ↔ (IsTrue a × IsTrue b)
and_both true b = (λ e. (refl, e), λ e. e.1)
and_both false b = (λ e. absurd cc, λ e. let first = e.0 in absurd cc)

flags : (g : Cell → Bool) → g no_cell ≡ true → ((a b : Cell) → g (merged a b) ≡ (g a && g b)) → (k : ℕ) (f : ℕ → Cell) → IsTrue (g (merged_below k f)) ↔ ((i : ℕ) → i < k → IsTrue (g (f i)))
unfolding merged_below
flags g unit step zero f = (λ e i below. absurd (omega (arith, below)), λ all. unit)
flags g unit step (suc k) f =
    let before = flags g unit step k f in
    let parts = and_both (g (merged_below k f)) (g (f k)) in
    let same = step (merged_below k f) (f k) in (
      λ e i below. by_order (before.0 (parts.0 (sym same ∙ e)).0) (parts.0 (sym same ∙ e)).1 i below (cases_lt i k),
      λ all. same ∙ parts.1 (before.1 (λ i below. all i (omega (arith, below))), all k (omega arith)),
    )
  where
    by_order : ((i : ℕ) → i < k → IsTrue (g (f i))) → IsTrue (g (f k)) → (i : ℕ) → i < suc k → (i < k) ⊎ (k ≤ i) → IsTrue (g (f i))
    by_order each last i below (inl low) = each i low
    by_order each last i below (inr high) = let same : k ≡ i = omega (arith, below, high) in subst (λ (j : ℕ). IsTrue (g (f j))) same last

four : (a b c d : Bool) → ((a && b) && (c && d)) ≡ ((a && c) && (b && d))
four true true c d = refl
four true false true d = refl
four true false false d = refl
four false b c d = refl

-- where a test is passed of no object, it is passed of several just where it is of each
step_of : (test : Test) (n : ℕ) → passes test n no_cell ≡ true → (a b : Cell) → passes test n (merged a b) ≡ (passes test n a && passes test n b)
step_of (Answered Value) n unit a b = by (is_property_number n) unit
  where
    by : (is : Bool) → (is && true) ≡ true → (is && (a.short && b.short)) ≡ ((is && a.short) && (is && b.short))
    by true e = refl
    by false e = absurd cc
step_of (Answered Address) n unit a b = refl
step_of (Answered Next) n unit a b = by (n == 0)
  where
    by : (is : Bool) → (is || (a.has && b.has)) ≡ ((is || a.has) && (is || b.has))
    by true = refl
    by false = refl
step_of Put n unit a b = four a.has b.has a.short b.short
step_of Open n unit a b = refl

-- and else of none at all
none_pass : (test : Test) (n : ℕ) → passes test n no_cell ≡ false → (cell : Cell) → passes test n cell ≡ false
none_pass (Answered Value) n e cell = by (is_property_number n) e
  where
    by : (is : Bool) → (is && true) ≡ false → (is && cell.short) ≡ false
    by true e = absurd cc
    by false e = refl
none_pass (Answered Address) n e cell = absurd cc
none_pass (Answered Next) n e cell = by (n == 0) e
  where
    by : (is : Bool) → (is || true) ≡ false → (is || cell.has) ≡ false
    by true e = absurd cc
    by false e = absurd cc
none_pass Put n e cell = absurd cc
none_pass Open n e cell = absurd cc

not_both : (b : Bool) → b ≡ false → IsTrue b → ⊥
not_both true e f = cc
not_both false e f = cc

-- a block passes a test just where each of its objects does
module _ (told : FrozenStory) (test : Test) (block n : ℕ) where
  place_passes : (place : ℕ) → passes test n no_cell ≡ true → IsTrue (passes test n (place_cell told block n place)) ↔ (16 * block + place < told.story.objects → IsTrue (passes test n (cell_at told (object_in block place) n)))
  place_passes place unit = by (nat_lt (16 * block + place) told.story.objects) refl
    where
      by : (b : Bool) → nat_lt (16 * block + place) told.story.objects ≡ b → IsTrue (passes test n (if b then cell_at told (object_in block place) n else no_cell)) ↔ (16 * block + place < told.story.objects → IsTrue (passes test n (cell_at told (object_in block place) n)))
      by true e = (λ passed there. passed, λ each. each (ltb-true (16 * block + place) told.story.objects e))
      by false e = (λ passed there. let e' = lt-ltb (16 * block + place) told.story.objects there in absurd cc, λ each. unit)

  pub block_where : 16 * block < told.story.objects → IsTrue (passes test n (block_cell told block n)) ↔ EachInBlock told block (λ x. IsTrue (passes test n (cell_at told x n)))
  block_where some = by (passes test n no_cell) refl
    where
      by : (b : Bool) → passes test n no_cell ≡ b → IsTrue (passes test n (block_cell told block n)) ↔ EachInBlock told block (λ x. IsTrue (passes test n (cell_at told x n)))
      by true unit =
          let all = flags (passes test n) unit (step_of test n unit) 16 (place_cell told block n) in (
            λ passed place few there. (place_passes place unit).0 (all.0 passed place few) there,
            λ each. all.1 (λ place few. (place_passes place unit).1 (each place few)),
          )
      by false never = (
        λ passed. absurd (not_both _ (none_pass test n never (block_cell told block n)) passed),
        λ each. absurd (not_both _ (none_pass test n never (cell_at told (object_in block 0) n)) (each 0 (omega arith) (omega (arith, some)))),
      )

-- ---- objects by their blocks

module _ (told : FrozenStory) (P : ℕ → Type 0) where
  pub each_object : (count : ℕ) → told.story.objects ≤ 16 * count → ((block : ℕ) → block < count → EachInBlock told block P) → (x : ℕ) → 1 ≤ x → x ≤ told.story.objects → P x
  each_object count all each x first last =
      let same : 16 * ((x - 1) / 16) + (x - 1) % 16 + 1 ≡ x = omega (arith, first) in
      subst P same (each ((x - 1) / 16) (omega (arith, first, last, all)) ((x - 1) % 16) (omega arith) (omega (arith, first, last)))

  pub in_block : (block : ℕ) → ((x : ℕ) → 1 ≤ x → x ≤ told.story.objects → P x) → EachInBlock told block P
  in_block block each place few there = each (object_in block place) (omega arith) (omega (arith, there))

-- ---- ends, by what bounds them

-- the ends lie within two bounds
abbrev Holds : ℕ → ℕ → Ends → Type 0
Holds z y ends = (z ≤ ends.least) × (ends.greatest ≤ y)

same_fields : (a b : Ends) → a.least ≡ b.least → a.greatest ≡ b.greatest → a ≡ b
same_fields a b e f = ap (λ (l : ℕ). record { least = l; greatest = a.greatest }) e ∙ ap (λ (g : ℕ). record { least = b.least; greatest = g }) f

same_ends : (a b : Ends) → a.least ≤ 65535 → b.least ≤ 65535 → ((z y : ℕ) → z ≤ 65535 → Holds z y a ↔ Holds z y b) → a ≡ b
same_ends a b low_a low_b same =
    let of_b = (same a.least a.greatest low_a).0 (omega arith, omega arith) in
    let of_a = (same b.least b.greatest low_b).1 (omega arith, omega arith) in
    let l = of_b.0 in let g = of_b.1 in let m = of_a.0 in let h = of_a.1 in
    same_fields a b (omega (arith, l, m)) (omega (arith, g, h))

least_below : (k : ℕ) (f : ℕ → Ends) → (ends_below k f).least ≤ 65535
unfolding ends_below
least_below zero f = omega arith
least_below (suc k) f = let before = least_below k f in omega (arith, before)

module _ (z y : ℕ) (least : z ≤ 65535) where
  holds_joined : (a b : Ends) → Holds z y (joined a b) ↔ (Holds z y a × Holds z y b)
  holds_joined a b = (
    λ h. let l = h.0 in let g = h.1 in ((omega (arith, l), omega (arith, g)), (omega (arith, l), omega (arith, g))),
    λ h. let l = h.0.0 in let g = h.0.1 in let m = h.1.0 in let k = h.1.1 in (omega (arith, l, m), omega (arith, g, k)),
  )

  holds_below : (k : ℕ) (f : ℕ → Ends) → Holds z y (ends_below k f) ↔ ((i : ℕ) → i < k → Holds z y (f i))
  unfolding ends_below
  holds_below zero f = (λ h i below. absurd (omega (arith, below)), λ all. (least, omega arith))
  holds_below (suc k) f =
      let before = holds_below k f in
      let parts = holds_joined (ends_below k f) (f k) in (
        λ h i below. by_order (before.0 (parts.0 h).0) (parts.0 h).1 i below (cases_lt i k),
        λ all. parts.1 (before.1 (λ i below. all i (omega (arith, below))), all k (omega arith)),
      )
    where
      by_order : ((i : ℕ) → i < k → Holds z y (f i)) → Holds z y (f k) → (i : ℕ) → i < suc k → (i < k) ⊎ (k ≤ i) → Holds z y (f i)
      by_order each last i below (inl low) = each i low
      by_order each last i below (inr high) = let same : k ≡ i = omega (arith, below, high) in subst (λ (j : ℕ). Holds z y (f j)) same last

  holds_if : (b : Bool) (ends : Ends) → Holds z y (if b then ends else no_word) ↔ (b ≡ true → Holds z y ends)
  holds_if true ends = (λ h e. h, λ each. each refl)
  holds_if false ends = (λ h e. absurd cc, λ each. (least, omega arith))

  holds_test : (k m : ℕ) (ends : Ends) → Holds z y (if nat_lt k m then ends else no_word) ↔ (k < m → Holds z y ends)
  holds_test k m ends = let by = holds_if (nat_lt k m) ends in (λ h below. by.0 h (lt-ltb k m below), λ each. by.1 (λ e. each (ltb-true k m e)))

-- what is answered of merged cells
answers_merged : (question : PropertyQuestion) (k : ℕ) (f : ℕ → Cell) → answer_ends question (merged_below k f) ≡ ends_below k (λ i. answer_ends question (f i))
unfolding merged_below ends_below
answers_merged Value zero f = refl
answers_merged Value (suc k) f = ap (λ (e : Ends). joined e (f k).values) (answers_merged Value k f)
answers_merged Address zero f = refl
answers_merged Address (suc k) f = ap (λ (e : Ends). joined e (f k).addresses) (answers_merged Address k f)
answers_merged Next zero f = refl
answers_merged Next (suc k) f = ap (λ (e : Ends). joined e no_word) (answers_merged Next k f)

module _ {V : Type 0} (o : SetOperations V) (sound : AreSound o) (told : FrozenStory) (question : PropertyQuestion) (objects numbers : V) where
  module _ (block : ℕ) (whole : EachInBlock told block (In o objects)) where
    answer_if : (z y n place : ℕ) → z ≤ 65535 → Holds z y (answer_ends question (place_cell told block n place)) ↔ (16 * block + place < told.story.objects → Holds z y (answer_ends question (cell_at told (object_in block place) n)))
    answer_if z y n place least = by (nat_lt (16 * block + place) told.story.objects) refl
      where
        none : (question : PropertyQuestion) → Holds z y (answer_ends question no_cell)
        none Value = (least, omega arith)
        none Address = (least, omega arith)
        none Next = (least, omega arith)

        by : (b : Bool) → nat_lt (16 * block + place) told.story.objects ≡ b → Holds z y (answer_ends question (if b then cell_at told (object_in block place) n else no_cell)) ↔ (16 * block + place < told.story.objects → Holds z y (answer_ends question (cell_at told (object_in block place) n)))
        by true e = (λ h there. h, λ each. each (ltb-true (16 * block + place) told.story.objects e))
        by false e = (λ h there. let e' = lt-ltb (16 * block + place) told.story.objects there in absurd cc, λ each. none question)

    cell_where : (z y n : ℕ) → z ≤ 65535 → Holds z y (answer_ends question (block_cell told block n)) ↔ EachInBlock told block (λ x. Holds z y (answer_ends question (cell_at told x n)))
    cell_where z y n least =
        let same = answers_merged question 16 (place_cell told block n) in
        let all = holds_below z y least 16 (λ place. answer_ends question (place_cell told block n place)) in (
          λ h place few. (answer_if z y n place least).0 (all.0 (subst (Holds z y) same h) place few),
          λ each. subst (Holds z y) (sym same) (all.1 (λ place few. (answer_if z y n place least).1 (each place few))),
        )

    row_where : (z y : ℕ) → z ≤ 65535 → Holds z y (ends_below 33 (row_end o told question numbers block)) ↔ ((n : ℕ) → n < 33 → is_asked o numbers n ≡ true → EachInBlock told block (λ x. Holds z y (answer_ends question (cell_at told x n))))
    row_where z y least =
        let all = holds_below z y least 33 (row_end o told question numbers block) in (
          λ h n few asked. (cell_where z y n least).0 ((holds_if z y least (is_asked o numbers n) (answer_ends question (block_cell told block n))).0 (all.0 h n few) asked),
          λ each. all.1 (λ n few. (holds_if z y least (is_asked o numbers n) (answer_ends question (block_cell told block n))).1 (λ asked. (cell_where z y n least).1 (each n few asked))),
        )

    number_where : (z y x : ℕ) → z ≤ 65535 → Holds z y (number_ends o told question numbers x) ↔ ((n : ℕ) → n < 33 → is_asked o numbers n ≡ true → Holds z y (answer_ends question (cell_at told x n)))
    number_where z y x least =
        let all = holds_below z y least 33 (pair_ends o told question numbers x) in (
          λ h n few. (holds_if z y least (is_asked o numbers n) (answer_ends question (cell_at told x n))).0 (all.0 h n few),
          λ each. all.1 (λ n few. (holds_if z y least (is_asked o numbers n) (answer_ends question (cell_at told x n))).1 (each n few)),
        )

    objects_where : (z y : ℕ) → z ≤ 65535 → Holds z y (block_ends o told question objects numbers block) ↔ EachInBlock told block (λ x. Holds z y (number_ends o told question numbers x))
    objects_where z y least =
        let all = holds_below z y least 16 (place_ends o told question objects numbers block) in (
          λ h place few there. (holds_if z y least (may_have o objects (object_in block place)) (number_ends o told question numbers (object_in block place))).0 ((holds_test z y least (16 * block + place) told.story.objects (object_ends o told question objects numbers (object_in block place))).0 (all.0 h place few) there) (may o sound objects (object_in block place) (whole place few there)),
          λ each. all.1 (λ place few. (holds_test z y least (16 * block + place) told.story.objects (object_ends o told question objects numbers (object_in block place))).1 (λ there. (holds_if z y least (may_have o objects (object_in block place)) (number_ends o told question numbers (object_in block place))).1 (λ may_be. each place few there))),
        )

    -- a whole block is asked by its cells
    pub row_is_block : ends_below 33 (row_end o told question numbers block) ≡ block_ends o told question objects numbers block
    row_is_block = same_ends _ _ (least_below 33 (row_end o told question numbers block)) (least_below 16 (place_ends o told question objects numbers block)) (λ z y least. (
      λ h. (objects_where z y least).1 (λ place near there. (number_where z y (object_in block place) least).1 (λ n few asked. (row_where z y least).0 h n few asked place near there)),
      λ h. (row_where z y least).1 (λ n few asked place near there. (number_where z y (object_in block place) least).0 ((objects_where z y least).0 h place near there) n few asked),
    ))

  -- all objects are asked by their blocks
  pub blocks_are_all : (count : ℕ) → told.story.objects ≤ 16 * count → ends_below count (block_ends o told question objects numbers) ≡ all_ends o told question objects numbers
  blocks_are_all count enough = same_ends _ _ (least_below count (block_ends o told question objects numbers)) (least_below told.story.objects object_below) (λ z y least.
      let of_blocks = holds_below z y least count (block_ends o told question objects numbers) in
      let of_objects = holds_below z y least told.story.objects object_below in (
        λ h. of_objects.1 (λ below there. by_place z y least below there (of_blocks.0 h (below / 16) (omega (arith, there, enough)))),
        λ h. of_blocks.1 (λ block few. (holds_below z y least 16 (place_ends o told question objects numbers block)).1 (λ place near. (holds_test z y least (16 * block + place) told.story.objects (object_ends o told question objects numbers (object_in block place))).1 (λ there. of_objects.0 h (16 * block + place) there))),
      ))
    where
      object_below : ℕ → Ends
      object_below below = object_ends o told question objects numbers (below + 1)

      by_place : (z y : ℕ) → z ≤ 65535 → (below : ℕ) → below < told.story.objects → Holds z y (block_ends o told question objects numbers (below / 16)) → Holds z y (object_ends o told question objects numbers (below + 1))
      by_place z y least below there h =
          let same : 16 * (below / 16) + below % 16 + 1 ≡ below + 1 = omega arith in
          let inside : 16 * (below / 16) + below % 16 < told.story.objects = omega (arith, there) in
          subst (λ (x : ℕ). Holds z y (object_ends o told question objects numbers x)) same ((holds_test z y least (16 * (below / 16) + below % 16) told.story.objects (object_ends o told question objects numbers (object_in (below / 16) (below % 16)))).0 ((holds_below z y least 16 (place_ends o told question objects numbers (below / 16))).0 h (below % 16) (omega arith)) inside)
