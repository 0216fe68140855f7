-- The questions of closed and fixed bytes have the meaning of zplace's sets.
use Rattle.std.proofs.Common.{◌≡◌, ◌↔◌, ◌⊎◌, inl, inr, ℕ, zero, suc, ◌+◌, ◌-◌, ◌*◌, ◌/◌, ◌<◌, ◌≤◌, Bool, true, false, ◌&&◌, ◌||◌, not, ◌==◌, List, length, Option, Some, None, refl, sym, subst, arith}
use Rattle.std.specs.Prelude.{nat_le, nat_lt}
use Rattle.std.proofs.lemmas.Bool.{cases_lt, lt-ltb, ltb-true, le-leb, leb-true, eq-eqb, eqb-true, eqb-false, ne_eqb, and_parts, and_from, or_cases, or_left, or_right, not-true, not_from_false}
use Rattle.std.proofs.lemmas.List.{get_or_past}
use Rattle.std.proofs.lemmas.Option.{same_Some}
use Rattle.zstory.specs.Bytes.{byte_at}
use Rattle.zstory.specs.LoadedStory.{LoadedStory, IsSound, globals, object_table, static_base, abbreviations}
use Rattle.zstory.specs.Objects.{IsObjectCount, object_place, property_table}
use Rattle.ztext.specs.Abbreviations.{readable_word}
use Rattle.ztext.specs.Local.{read_length}
use Rattle.zobj.specs.Properties.{list_place, data_end}
use Rattle.zpairs.specs.Frozen.{FrozenStory, frozen_by}
use Rattle.zplace.specs.Bytes.{IsWithin, IsFlags, IsChanging, IsObjectState, IsObjectEntry, IsSizePlace, here, behind, IsTableFrame, IsPropertyFrame, IsAbbreviation, IsHeader, IsClosed, header, a_global, a_default, an_entry, a_property, an_abbreviation, frozen, static, IsFixed}
use Rattle.zpairs.specs.Fixed.{is_within, any_below, is_size_place, is_in_frame, is_in_text, is_in_abbreviation, is_flags, is_closed, is_changing, is_fixed}

-- a question, and what it means
abbrev Tells : Bool → Type 0 → Type 0
Tells b P = (b ≡ true) ↔ P

either : {a b : Bool} {P Q : Type 0} → Tells a P → Tells b Q → Tells (a || b) (P ⊎ Q)
either {a} {b} {P} {Q} of_a of_b = (λ e. by_part (or_cases a b e), back)
  where
    by_part : (a ≡ true) ⊎ (b ≡ true) → P ⊎ Q
    by_part (inl e) = inl (of_a.0 e)
    by_part (inr e) = inr (of_b.0 e)

    back : P ⊎ Q → (a || b) ≡ true
    back (inl p) = or_left a b (of_a.1 p)
    back (inr q) = or_right a b (of_b.1 q)

within_is : (from size p : ℕ) → Tells (is_within from size p) (IsWithin from size p)
within_is from size p = (
  λ e. let parts = and_parts (nat_le from p) (nat_lt p (from + size)) e in (leb-true from p parts.0, ltb-true p (from + size) parts.1),
  λ inside. and_from (nat_le from p) (nat_lt p (from + size)) (le-leb from p inside.0) (lt-ltb p (from + size) inside.1),
)

both : (b : Bool) → not b ≡ true → b ≡ true → ⊥
both true e f = cc
both false e f = cc

negated : (b : Bool) → (b ≡ true → ⊥) → not b ≡ true
negated true none = absurd (none refl)
negated false none = refl

-- one below a number
abbrev SomeBelow : ℕ → (ℕ → Bool) → Type 0
SomeBelow n holds = (k : ℕ) × (k < n) × (holds k ≡ true)

pub any_is : (n : ℕ) (holds : ℕ → Bool) → Tells (any_below n holds) (SomeBelow n holds)
unfolding any_below
any_is zero holds = (λ e. absurd cc, λ some. absurd (let few = some.1 in omega (arith, few)))
any_is (suc n) holds = let before = any_is n holds in (λ e. by_part before (or_cases (any_below n holds) (holds n) e), λ some. by_order before some.0 some.1 some.2 (cases_lt some.0 n))
  where
    by_part : Tells (any_below n holds) (SomeBelow n holds) → (any_below n holds ≡ true) ⊎ (holds n ≡ true) → SomeBelow (suc n) holds
    by_part before (inl e) = let some = before.0 e in (some.0, let few = some.1 in omega (arith, few), some.2)
    by_part before (inr e) = (n, omega arith, e)

    by_order : Tells (any_below n holds) (SomeBelow n holds) → (k : ℕ) → k < suc n → holds k ≡ true → (k < n) ⊎ (n ≤ k) → (any_below n holds || holds n) ≡ true
    by_order before k few e (inl low) = or_left (any_below n holds) (holds n) (before.1 (k, low, e))
    by_order before k few e (inr high) = let same : k ≡ n = omega (arith, few, high) in or_right (any_below n holds) (holds n) (subst (λ (m : ℕ). holds m ≡ true) same e)

-- of those below a number one has a fact that a question means
any_tells : (n : ℕ) (holds : ℕ → Bool) (P : ℕ → Type 0) → ((k : ℕ) → Tells (holds k) (P k)) → Tells (any_below n holds) ((k : ℕ) × (k < n) × P k)
any_tells n holds P each = let some = any_is n holds in (λ e. let found = some.0 e in (found.0, found.1, (each found.0).0 found.2), λ found. some.1 (found.0, found.1, (each found.0).1 found.2))

-- ---- size bytes

outside : (memory : List ℕ) (at : ℕ) → length memory ≤ at → byte_at memory at ≡ 0
outside memory at beyond = get_or_past memory at 0 beyond

module _ (memory : List ℕ) (p : ℕ) where
  -- a size byte is no further than there are bytes
  pub size_is : (n at : ℕ) → length memory ≤ at + n → Tells (is_size_place n memory at p) (IsSizePlace memory p at)
  unfolding is_size_place
  size_is zero at enough = (λ e. absurd cc, λ place. absurd (none place))
    where
      none : IsSizePlace memory p at → ⊥
      none (here _ is inside) = omega (arith, enough, is, inside)
      none (behind _ some rest) = some (outside memory at (omega (arith, enough)))
  size_is (suc n) at enough = let rest = size_is n (data_end memory at) (omega (arith, enough)) in (λ e. by_part rest (or_cases ((p == at) && nat_lt p (length memory)) (not (byte_at memory at == 0) && is_size_place n memory (data_end memory at) p) e), back rest)
    where
      by_part : Tells (is_size_place n memory (data_end memory at) p) (IsSizePlace memory p (data_end memory at)) → (((p == at) && nat_lt p (length memory)) ≡ true) ⊎ ((not (byte_at memory at == 0) && is_size_place n memory (data_end memory at) p) ≡ true) → IsSizePlace memory p at
      by_part rest (inl e) = let parts = and_parts (p == at) (nat_lt p (length memory)) e in here at (eqb-true p at parts.0) (ltb-true p (length memory) parts.1)
      by_part rest (inr e) = let parts = and_parts (not (byte_at memory at == 0)) (is_size_place n memory (data_end memory at) p) e in behind at (eqb-false (byte_at memory at) 0 (not-true (byte_at memory at == 0) parts.0)) (rest.0 parts.1)

      back : Tells (is_size_place n memory (data_end memory at) p) (IsSizePlace memory p (data_end memory at)) → IsSizePlace memory p at → (((p == at) && nat_lt p (length memory)) || (not (byte_at memory at == 0) && is_size_place n memory (data_end memory at) p)) ≡ true
      back rest (here _ is inside) = or_left ((p == at) && nat_lt p (length memory)) (not (byte_at memory at == 0) && is_size_place n memory (data_end memory at) p) (and_from (p == at) (nat_lt p (length memory)) (eq-eqb p at is) (lt-ltb p (length memory) inside))
      back rest (behind _ some later) = or_right ((p == at) && nat_lt p (length memory)) (not (byte_at memory at == 0) && is_size_place n memory (data_end memory at) p) (and_from (not (byte_at memory at == 0)) (is_size_place n memory (data_end memory at) p) (not_from_false (byte_at memory at == 0) (ne_eqb (byte_at memory at) 0 some)) (rest.1 later))

  pub all_sizes : (at : ℕ) → Tells (is_size_place (length memory) memory at p) (IsSizePlace memory p at)
  all_sizes at = size_is (length memory) at (omega arith)

  frame_is : (table : ℕ) → Tells (is_in_frame memory table p) (IsTableFrame memory table p)
  frame_is table = either (within_is table (1 + 2 * byte_at memory table) p) (all_sizes (list_place memory table))

  -- ---- texts

  -- what a reading goes over of the text that a word leads to
  abbrev IsInText : Option ℕ → Type 0
  IsInText found = (word : ℕ) × (found ≡ Some word) × IsWithin (2 * word) (read_length memory (2 * word)) p

  no_Some : (w : ℕ) → None ≡ Some w → ⊥
  no_Some w e = cc

  text_is : (found : Option ℕ) → Tells (is_in_text memory found p) (IsInText found)
  text_is None = (λ e. absurd cc, λ text. absurd (no_Some text.0 text.1))
  text_is (Some word) = let inside = within_is (2 * word) (read_length memory (2 * word)) p in (λ e. (word, refl, inside.0 e), λ text. inside.1 (subst (λ (w : ℕ). IsWithin (2 * w) (read_length memory (2 * w)) p) (sym (same_Some word text.0 text.1)) text.2))

-- ---- the sets

module _ (story : LoadedStory) (p : ℕ) where
  abbreviation_is : Tells (any_below 96 (λ n. is_in_abbreviation story.memory (abbreviations story) n p)) (IsAbbreviation story p)
  abbreviation_is = let all = any_tells 96 (λ n. is_in_abbreviation story.memory (abbreviations story) n p) (λ n. IsWithin (abbreviations story + 2 * n) 2 p ⊎ IsInText story.memory p (readable_word story.memory (abbreviations story + 2 * n))) one in (λ e. let found = all.0 e in record { number = found.0; last = found.1; inside = found.2 }, λ abbreviation. all.1 (abbreviation.number, abbreviation.last, abbreviation.inside))
    where
      one : (n : ℕ) → Tells (is_in_abbreviation story.memory (abbreviations story) n p) (IsWithin (abbreviations story + 2 * n) 2 p ⊎ IsInText story.memory p (readable_word story.memory (abbreviations story + 2 * n)))
      one n = either (within_is (abbreviations story + 2 * n) 2 p) (text_is story.memory p (readable_word story.memory (abbreviations story + 2 * n)))

  -- objects by how many there are before them
  property_is : Tells (any_below story.objects (λ below. is_in_frame story.memory (property_table story.memory (below + 1)) p)) (IsPropertyFrame story p)
  property_is = let all = any_tells story.objects (λ below. is_in_frame story.memory (property_table story.memory (below + 1)) p) (λ below. IsTableFrame story.memory (property_table story.memory (below + 1)) p) (λ below. frame_is story.memory p (property_table story.memory (below + 1))) in (
    λ e. let found = all.0 e in let few = found.1 in record { object = found.0 + 1; first = omega arith; last = omega (arith, few); inside = found.2 },
    λ frame. let first = frame.first in let last = frame.last in let same : frame.object ≡ frame.object - 1 + 1 = omega (arith, first) in all.1 (frame.object - 1, omega (arith, first, last), subst (λ (x : ℕ). IsTableFrame story.memory (property_table story.memory x) p) same frame.inside),
  )

  state_is : Tells (any_below story.objects (λ below. is_within (object_place story.memory (below + 1)) 7 p)) (IsObjectState story p)
  state_is = let all = any_tells story.objects (λ below. is_within (object_place story.memory (below + 1)) 7 p) (λ below. IsWithin (object_place story.memory (below + 1)) 7 p) (λ below. within_is (object_place story.memory (below + 1)) 7 p) in (
    λ e. let found = all.0 e in let few = found.1 in record { object = found.0 + 1; first = omega arith; last = omega (arith, few); inside = found.2 },
    λ state. let first = state.first in let last = state.last in let same : state.object ≡ state.object - 1 + 1 = omega (arith, first) in all.1 (state.object - 1, omega (arith, first, last), subst (λ (x : ℕ). IsWithin (object_place story.memory x) 7 p) same state.inside),
  )

  pub changing_is : Tells (is_changing story p) (IsChanging story p)
  changing_is = let all = either (either (within_is 0x10 2 p) (within_is (globals story) 480 p)) state_is in (λ e. right (all.0 e), λ is. all.1 (left is))
    where
      right : (IsFlags p ⊎ IsWithin (globals story) 480 p) ⊎ IsObjectState story p → IsChanging story p
      right (inl (inl flags)) = inl flags
      right (inl (inr inside)) = inr (inl inside)
      right (inr state) = inr (inr state)

      left : IsChanging story p → (IsFlags p ⊎ IsWithin (globals story) 480 p) ⊎ IsObjectState story p
      left (inl flags) = inl (inl flags)
      left (inr (inl inside)) = inl (inr inside)
      left (inr (inr state)) = inr state

  header_is : Tells (nat_lt p 64 && not (is_flags p)) (IsHeader p)
  header_is = let flags = within_is 0x10 2 p in (
    λ e. let parts = and_parts (nat_lt p 64) (not (is_flags p)) e in (ltb-true p 64 parts.0, λ inside. both (is_flags p) parts.1 (flags.1 inside)),
    λ is. and_from (nat_lt p 64) (not (is_flags p)) (lt-ltb p 64 is.0) (negated (is_flags p) (λ e. is.1 (flags.0 e))),
  )

  static_is : Tells (nat_le (static_base story) p) (static_base story ≤ p)
  static_is = (λ e. leb-true (static_base story) p e, λ above. le-leb (static_base story) p above)

  -- the object table, with the entries of all objects
  table_is : Tells (is_within (object_table story) (62 + 9 * story.objects) p) (IsWithin (object_table story) 62 p ⊎ IsObjectEntry story p)
  table_is = let inside = within_is (object_table story) (62 + 9 * story.objects) p in (λ e. by_order (inside.0 e) (cases_lt p (object_table story + 62)), λ part. inside.1 (whole part))
    where
      by_order : IsWithin (object_table story) (62 + 9 * story.objects) p → (p < object_table story + 62) ⊎ (object_table story + 62 ≤ p) → IsWithin (object_table story) 62 p ⊎ IsObjectEntry story p
      by_order inside (inl low) = inl (inside.0, low)
      by_order inside (inr high) = inr (record {
        object = (p - (object_table story + 62)) / 9 + 1;
        first = omega arith;
        last = omega (arith, high, inside.1);
        inside = (omega (arith, high), omega (arith, high));
      })

      whole : IsWithin (object_table story) 62 p ⊎ IsObjectEntry story p → IsWithin (object_table story) (62 + 9 * story.objects) p
      whole (inl inside) = (inside.0, omega (arith, inside.1))
      whole (inr entry) = (omega (arith, entry.first, entry.inside.0), omega (arith, entry.first, entry.last, entry.inside.1))

module _ (told : FrozenStory) (p : ℕ) where
  -- the sets of closed bytes, in the order of the question
  abbrev Parts : Type 0
  Parts = (((((IsHeader p ⊎ IsWithin (globals told.story) 480 p) ⊎ (IsWithin (object_table told.story) 62 p ⊎ IsObjectEntry told.story p)) ⊎ IsPropertyFrame told.story p) ⊎ IsAbbreviation told.story p) ⊎ (frozen_by told.ranges p ≡ true)) ⊎ (static_base told.story ≤ p)

  parts_are : Tells (is_closed told p) Parts
  parts_are = either (either (either (either (either (either (header_is told.story p) (within_is (globals told.story) 480 p)) (table_is told.story p)) (property_is told.story p)) (abbreviation_is told.story p)) frozen_is) (static_is told.story p)
    where
      frozen_is : Tells (frozen_by told.ranges p) (frozen_by told.ranges p ≡ true)
      frozen_is = (λ e. e, λ e. e)

  gathered : Parts → IsClosed told.story (frozen_by told.ranges) p
  gathered (inl (inl (inl (inl (inl (inl is)))))) = header is
  gathered (inl (inl (inl (inl (inl (inr is)))))) = a_global is
  gathered (inl (inl (inl (inl (inr (inl is)))))) = a_default is
  gathered (inl (inl (inl (inl (inr (inr is)))))) = an_entry is
  gathered (inl (inl (inl (inr is)))) = a_property is
  gathered (inl (inl (inr is))) = an_abbreviation is
  gathered (inl (inr is)) = frozen is
  gathered (inr is) = static is

  parted : IsClosed told.story (frozen_by told.ranges) p → Parts
  parted (header is) = inl (inl (inl (inl (inl (inl is)))))
  parted (a_global is) = inl (inl (inl (inl (inl (inr is)))))
  parted (a_default is) = inl (inl (inl (inl (inr (inl is)))))
  parted (an_entry is) = inl (inl (inl (inl (inr (inr is)))))
  parted (a_property is) = inl (inl (inl (inr is)))
  parted (an_abbreviation is) = inl (inl (inr is))
  parted (frozen is) = inl (inr is)
  parted (static is) = inr is

  pub closed_is : (is_closed told p ≡ true) ↔ IsClosed told.story (frozen_by told.ranges) p
  closed_is = (λ e. gathered (parts_are.0 e), λ closed. parts_are.1 (parted closed))

  pub fixed_is : (is_fixed told p ≡ true) ↔ IsFixed told.story (frozen_by told.ranges) p
  fixed_is = let changing = changing_is told.story p in (
    λ e. let parts = and_parts (is_closed told p) (not (is_changing told.story p)) e in record { closed = closed_is.0 parts.0; unchanging = λ is. both (is_changing told.story p) parts.1 (changing.1 is) },
    λ fixed. and_from (is_closed told p) (not (is_changing told.story p)) (closed_is.1 fixed.closed) (negated (is_changing told.story p) (λ e. fixed.unchanging (changing.0 e))),
  )

module _ (story : LoadedStory) (sound : IsSound story.memory) (counted : IsObjectCount story.memory story.objects) where
  -- no instruction changes static memory
  pub static_unchanging : (p : ℕ) → static_base story ≤ p → IsChanging story p → ⊥
  static_unchanging p above (inl flags) = absurd (let base : 64 ≤ static_base story = sound.static_base_above in omega (arith, flags.1))
  static_unchanging p above (inr (inl variable)) = absurd (let base : globals story + 480 ≤ static_base story = sound.globals_within in omega (arith, variable.1))
  static_unchanging p above (inr (inr state)) =
      let dynamic = (counted.entries state.object state.first state.last).dynamic in
      absurd (omega (arith, dynamic, state.inside.1))
