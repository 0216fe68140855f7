-- What is said of every memory of a play stays so when attributes, links of objects, properties or open bytes are written.
use Rattle.std.proofs.Common.{◌≡◌, ◌⊎◌, inl, inr, ℕ, ◌+◌, ◌*◌, ◌/◌, ◌<◌, ◌≤◌, Bool, List, length, Result, Ok, Err, refl, sym, ap, subst, ◌∙◌, arith}
use Rattle.std.specs.Prelude.{IfOk}
use Rattle.std.specs.Result.{IsOkAnd}
use Rattle.std.proofs.lemmas.Option.{slice_get_within}
use Rattle.zstory.specs.Bytes.{byte_at, word_at}
use Rattle.zstory.specs.Header as header
use Rattle.zstory.specs.LoadedStory.{LoadedStory, globals, object_table}
use Rattle.zstory.specs.Objects.{object_place}
use Rattle.zobj.specs.declared.error.ObjectError.{ObjectError}
use Rattle.zobj.specs.declared.tree.Link.{Link}
use Rattle.zobj.specs.declared.tree.Link.TheVariants.{Parent, Sibling, Child}
use Rattle.zobj.specs.Attributes.{with_attribute}
use Rattle.zobj.specs.Entries.{HasTable, IsEntryByte, IsLinkByte}
use Rattle.zobj.specs.Kept.{DiffersOnly}
use Rattle.zobj.specs.Moves.{inserted, unlinked}
use Rattle.zobj.specs.Tree.{IsTree, link_byte, linked}
use Rattle.zobj.proofs.Bytes.{differs_there, entry_byte_is, entry_byte_rests}
use Rattle.zobj.proofs.Keeping.{inserted_only, inserted_tree, unlinked_only, unlinked_stays}
use Rattle.zdomain.specs.Domain.{SetOperations, In}
use Rattle.zplace.specs.Bytes.{IsClosed, IsFixed, IsObjectState, IsOpen, IsWithin, a_global, an_entry}
use Rattle.zrule.specs.Claims.{Claims, frozen_in}
use Rattle.zrule.specs.Rules.{HasDisjointTables, HasGlobals}
use Rattle.zrule.specs.Described.{DescribedMemory}

module _ {V : Type 0} (o : SetOperations V) (claims : Claims V) (story : LoadedStory) (tables : HasDisjointTables story (frozen_in claims)) (few : length claims.globals ≤ 240) (memory : List ℕ) (d : DescribedMemory o claims story memory) (has : HasTable memory story.objects) (same : header.object_table memory ≡ object_table story) where
  module _ (after : List ℕ) (first size : ℕ) (inside : first + size ≤ 7) (differs : DiffersOnly (IsEntryByte memory story.objects first size) memory after) where
    -- a byte that no entry has is as it was
    byte_stays : (p : ℕ) → (IsEntryByte memory story.objects first size p → ⊥) → byte_at after p ≡ byte_at memory p
    byte_stays p outside = elim (differs.rest p) [ inl e ↦ e | inr is ↦ absurd (outside is) ]

    no_global : (p : ℕ) → IsWithin (globals story) 480 p → IsEntryByte memory story.objects first size p → ⊥
    no_global p within is = tables.apart p within (omega (arith, is.from, is.least, same), omega (arith, is.below, is.most, is.least, inside, same))

    values_stay : HasGlobals o claims story after
    values_stay k values is =
        let below = slice_get_within claims.globals k values is in
        let high = byte_stays (globals story + 2 * k) (no_global _ (omega arith, omega (arith, below, few))) in
        let low = byte_stays (globals story + 2 * k + 1) (no_global _ (omega arith, omega (arith, below, few))) in
        subst (In o values) (sym (word_is high low)) (d.values k values is)
      where
        word_is : byte_at after (globals story + 2 * k) ≡ byte_at memory (globals story + 2 * k) → byte_at after (globals story + 2 * k + 1) ≡ byte_at memory (globals story + 2 * k + 1) → word_at after (globals story + 2 * k) ≡ word_at memory (globals story + 2 * k)
        word_is high low = rw (high, low) refl

    fixed_stays : (p : ℕ) → IsFixed story (frozen_in claims) p → byte_at after p ≡ byte_at story.memory p
    fixed_stays p fixed = byte_stays p (λ is. fixed.unchanging (inr (inr (record { object = is.object; first = is.least; last = is.most; inside = (omega (arith, is.from, same), omega (arith, is.below, inside, same)) })))) ∙ d.fixed p fixed

    described : IsTree after story.objects → DescribedMemory o claims story after
    described tree = record { long = differs.size ∙ d.long; values = values_stay; tree = tree; fixed = fixed_stays }

  -- an attribute is set or cleared
  module _ (sets : Bool) (object attribute : ℕ) (least : 1 ≤ object) (most : object ≤ story.objects) (low : attribute < 32) where
    abbrev marked : List ℕ
    marked = with_attribute sets object attribute memory

    marked_only : DiffersOnly (IsEntryByte memory story.objects 0 4) memory marked
    marked_only = differs_there memory story.objects 0 4 object (attribute / 8) _ has least most (omega arith) (omega (arith, low))

    link_inside : (link : Link) → (link_byte link < 9) × (4 ≤ link_byte link)
    link_inside Parent = (omega arith, omega arith)
    link_inside Sibling = (omega arith, omega arith)
    link_inside Child = (omega arith, omega arith)

    marked_tree : IsTree marked story.objects
    marked_tree = record {
      small = λ link other from to.
          let k = link_inside link in
          let stays = entry_byte_rests memory marked story.objects 0 4 has marked_only (omega arith) other (link_byte link) from k.0 (λ above below. omega (arith, below, k.1)) in
          let now = entry_byte_is marked other (link_byte link) from in
          let was = entry_byte_is memory other (link_byte link) from in
          let small : linked link memory other ≤ story.objects = d.tree.small link other from to in
          omega (arith, stays, now, was, small);
    }

    pub marked_described : DescribedMemory o claims story marked
    marked_described = described marked 0 4 (omega arith) marked_only marked_tree

  -- a move is done
  moved_described : (r : Result (List ℕ) ObjectError) → IfOk r (DiffersOnly (IsLinkByte memory story.objects) memory) → IsOkAnd r (λ after. IsTree after story.objects) → IsOkAnd r (DescribedMemory o claims story)
  moved_described (Ok after) only tree = described after 4 3 (omega arith) only tree
  moved_described (Err e) only tree = absurd tree

  pub unlinked_described : (object : ℕ) → 1 ≤ object → object ≤ story.objects → IsOkAnd (unlinked story.objects object memory) (DescribedMemory o claims story)
  unlinked_described object least most = moved_described _ (unlinked_only story.objects memory has object least most) (unlinked_stays story.objects memory has object least most d.tree)

  pub inserted_described : (object under : ℕ) → 1 ≤ object → object ≤ story.objects → 1 ≤ under → under ≤ story.objects → IsOkAnd (inserted story.objects object under memory) (DescribedMemory o claims story)
  inserted_described object under least most first last = moved_described _ (inserted_only story.objects memory has object least most under first last) (inserted_tree story.objects memory has object least most under first last d.tree)

  -- bytes are written that are neither globals nor what objects keep of their own, and of which nothing is fixed
  module _ (IsWritten : ℕ → Type 0) (apart : (p : ℕ) → IsWritten p → (IsWithin (globals story) 480 p ⊎ IsObjectState story p) → ⊥) (unfixed : (p : ℕ) → IsWritten p → IsFixed story (frozen_in claims) p → ⊥) (after : List ℕ) (differs : DiffersOnly IsWritten memory after) where
    other_stays : (p : ℕ) → (IsWritten p → ⊥) → byte_at after p ≡ byte_at memory p
    other_stays p outside = elim (differs.rest p) [ inl e ↦ e | inr is ↦ absurd (outside is) ]

    own_stays : (p : ℕ) → (IsWithin (globals story) 480 p ⊎ IsObjectState story p) → byte_at after p ≡ byte_at memory p
    own_stays p own = other_stays p (λ is. apart p is own)

    written_values : HasGlobals o claims story after
    written_values k values is =
        let below = slice_get_within claims.globals k values is in
        let high = own_stays (globals story + 2 * k) (inl (omega arith, omega (arith, below, few))) in
        let low = own_stays (globals story + 2 * k + 1) (inl (omega arith, omega (arith, below, few))) in
        subst (In o values) (sym (word_is high low)) (d.values k values is)
      where
        word_is : byte_at after (globals story + 2 * k) ≡ byte_at memory (globals story + 2 * k) → byte_at after (globals story + 2 * k + 1) ≡ byte_at memory (globals story + 2 * k + 1) → word_at after (globals story + 2 * k) ≡ word_at memory (globals story + 2 * k)
        word_is high low = rw (high, low) refl

    written_fixed : (p : ℕ) → IsFixed story (frozen_in claims) p → byte_at after p ≡ byte_at story.memory p
    written_fixed p fixed = other_stays p (λ is. unfixed p is fixed) ∙ d.fixed p fixed

    link_low : (link : Link) → (link_byte link < 7) × (4 ≤ link_byte link)
    link_low Parent = (omega arith, omega arith)
    link_low Sibling = (omega arith, omega arith)
    link_low Child = (omega arith, omega arith)

    -- the object table is where it was, since the header is as loaded
    table_stays : header.object_table after ≡ object_table story → (object : ℕ) → object_place after object ≡ object_place story.memory object
    table_stays e object = rw e refl

    written_tree : header.object_table after ≡ object_table story → IsTree after story.objects
    written_tree place = record {
      small = λ link object from to.
          let k = link_low link in
          let now_place = table_stays place object in
          let was_place : object_place memory object ≡ object_place story.memory object = rw same refl in
          let stays = own_stays (object_place story.memory object + link_byte link) (inr (record { object = object; first = from; last = to; inside = (omega arith, omega (arith, k.0)) })) in
          let now = entry_byte_is after object (link_byte link) from in
          let was = entry_byte_is memory object (link_byte link) from in
          let small : linked link memory object ≤ story.objects = d.tree.small link object from to in
          let now_is : byte_at after (object_place after object + link_byte link) ≡ byte_at after (object_place story.memory object + link_byte link) = ap (λ (p : ℕ). byte_at after (p + link_byte link)) now_place in
          let was_is : byte_at memory (object_place memory object + link_byte link) ≡ byte_at memory (object_place story.memory object + link_byte link) = ap (λ (p : ℕ). byte_at memory (p + link_byte link)) was_place in
          omega (arith, stays, now, was, small, now_is, was_is);
    }

    pub written_described : header.object_table after ≡ object_table story → DescribedMemory o claims story after
    written_described place = record { long = differs.size ∙ d.long; values = written_values; tree = written_tree place; fixed = written_fixed }

  -- the entries of objects are closed
  state_closed : (p : ℕ) → IsObjectState story p → IsClosed story (frozen_in claims) p
  state_closed p is = let inside = is.inside in an_entry (record { object = is.object; first = is.first; last = is.last; inside = (inside.0, omega (arith, inside.1)) })

  -- open bytes are given others
  pub stored_described : (IsWritten : ℕ → Type 0) (free : (p : ℕ) → IsWritten p → IsOpen story (frozen_in claims) p) (after : List ℕ) → DiffersOnly IsWritten memory after → header.object_table after ≡ object_table story → DescribedMemory o claims story after
  stored_described IsWritten free = written_described IsWritten
      (λ p is own. elim own [ inl is_global ↦ free p is (a_global is_global) | inr state ↦ free p is (state_closed p state) ])
      (λ p is fixed. free p is fixed.closed)
