-- What is said of every memory of a play stays so when a global is written.
use Rattle.std.proofs.Common.{◌≡◌, ◌⊎◌, inl, inr, ℕ, ◌+◌, ◌-◌, ◌*◌, ◌/◌, ◌%◌, ◌<◌, ◌≤◌, Bool, if◌then◌else◌, List, length, Option, Some, None, refl, ap, subst, ◌∙◌, arith, slice_set}
use Rattle.std.specs.Prelude.{MatchOption, slice_get}
use Rattle.std.proofs.lemmas.Bool.{cases_lt}
use Rattle.std.proofs.lemmas.Option.{same_Some}
use Rattle.std.proofs.lemmas.List.{get_or-set_other, get_or-set_same, length-set}
use Rattle.zstory.specs.Bytes.{byte_at, word_at}
use Rattle.zstory.specs.Header as header
use Rattle.zstory.specs.LoadedStory.{LoadedStory, globals, object_table}
use Rattle.zstory.specs.Objects.{object_place}
use Rattle.zobj.specs.declared.tree.Link.{Link}
use Rattle.zobj.specs.declared.tree.Link.TheVariants.{Parent, Sibling, Child}
use Rattle.zobj.specs.Entries.{entry_byte}
use Rattle.zobj.specs.Tree.{IsTree, link_byte}
use Rattle.zobj.proofs.Bytes.{no_zero}
use Rattle.zdomain.specs.Domain.{SetOperations, In, Within}
use Rattle.zstate.specs.State.{write_word}
use Rattle.zplace.specs.Bytes.{IsFixed, IsFlags, IsWithin}
use Rattle.zrule.specs.Claims.{Claims, frozen_in}
use Rattle.zrule.specs.Rules.{HasDisjointTables, HasGlobals}
use Rattle.zrule.specs.Described.{DescribedMemory, IsLoadedStory}
use Rattle.zrule.proofs.Unchanged.{header_fixed}

byte_other : (memory : List ℕ) (p x q : ℕ) → (q ≡ p → ⊥) → (q ≡ p + 1 → ⊥) → byte_at (write_word memory p x) q ≡ byte_at memory q
byte_other memory p x q a b = get_or-set_other (slice_set memory p (x / 256)) (p + 1) q (x % 256) 0 b ∙ get_or-set_other memory p q (x / 256) 0 a

pub word_other : (memory : List ℕ) (p x q : ℕ) → (q + 1 < p) ⊎ (p + 1 < q) → word_at (write_word memory p x) q ≡ word_at memory q
word_other memory p x q (inl a) =
    let h = byte_other memory p x q (λ e. omega (arith, e, a)) (λ e. omega (arith, e, a)) in
    let l = byte_other memory p x (q + 1) (λ e. omega (arith, e, a)) (λ e. omega (arith, e, a)) in
    rw (h, l) refl
word_other memory p x q (inr a) =
    let h = byte_other memory p x q (λ e. omega (arith, e, a)) (λ e. omega (arith, e, a)) in
    let l = byte_other memory p x (q + 1) (λ e. omega (arith, e, a)) (λ e. omega (arith, e, a)) in
    rw (h, l) refl

pub word_written : (memory : List ℕ) (p x : ℕ) → p + 1 < length memory → word_at (write_word memory p x) p ≡ x
word_written memory p x within =
    let h : byte_at (write_word memory p x) p ≡ x / 256 = get_or-set_other (slice_set memory p (x / 256)) (p + 1) p (x % 256) 0 (λ e. omega (arith, e)) ∙ get_or-set_same memory p (x / 256) 0 (omega (arith, within)) in
    let l : byte_at (write_word memory p x) (p + 1) ≡ x % 256 = get_or-set_same (slice_set memory p (x / 256)) (p + 1) (x % 256) 0 (rw (length-set memory p (x / 256)) within) in
    rw (h, l) (omega arith)

module _ {V : Type 0} (o : SetOperations V) (claims : Claims V) (story : LoadedStory) (loaded : IsLoadedStory story) (tables : HasDisjointTables story (frozen_in claims)) (v x : ℕ) (a : V) (memory : List ℕ) (long : length memory ≡ length story.memory) (above : 16 ≤ v) (below_end : v < 256) (member : In o a x) (found : MatchOption (slice_get claims.globals (v - 16)) ⊥ (Within o a)) where
  inside : globals story + 2 * (v - 16) + 1 < length memory
  inside = let g = loaded.sound.globals_within in let h = loaded.sound.static_base_within in omega (arith, g, h, long, above, below_end)

  same_set : (option : Option V) (values : V) → option ≡ Some values → MatchOption option ⊥ (Within o a) → In o values x
  same_set None values e h = absurd h
  same_set (Some c) values e h = subst (λ (w : V). In o w x) (same_Some c values e) (h x member)

  values_put : HasGlobals o claims story memory → HasGlobals o claims story (write_word memory (globals story + 2 * (v - 16)) x)
  values_put was k values is = by_order (cases_lt k (v - 16)) (cases_lt (v - 16) k)
    where
      by_order : (k < v - 16) ⊎ (v - 16 ≤ k) → (v - 16 < k) ⊎ (k ≤ v - 16) → In o values (word_at (write_word memory (globals story + 2 * (v - 16)) x) (globals story + 2 * k))
      by_order (inl l) r = rw (word_other memory (globals story + 2 * (v - 16)) x (globals story + 2 * k) (inl (omega (arith, l)))) (was k values is)
      by_order (inr g) (inl l) = rw (word_other memory (globals story + 2 * (v - 16)) x (globals story + 2 * k) (inr (omega (arith, l)))) (was k values is)
      by_order (inr g) (inr l) =
          let same : v - 16 ≡ k = omega (arith, g, l) in
          let e : slice_get claims.globals (v - 16) ≡ Some values = ap (λ (j : ℕ). slice_get claims.globals j) same ∙ is in
          subst (λ (j : ℕ). In o values (word_at (write_word memory (globals story + 2 * (v - 16)) x) (globals story + 2 * j))) same
          (rw (word_written memory (globals story + 2 * (v - 16)) x inside) (same_set (slice_get claims.globals (v - 16)) values e found))

  other : (q : ℕ) → (IsWithin (globals story) 480 q → ⊥) → byte_at (write_word memory (globals story + 2 * (v - 16)) x) q ≡ byte_at memory q
  other q outside = byte_other memory (globals story + 2 * (v - 16)) x q (λ e. outside (omega (arith, e), omega (arith, e, above, below_end))) (λ e. outside (omega (arith, e), omega (arith, e, above, below_end)))

  -- no link of an object is changed
  module _ (fixed : (q : ℕ) → IsFixed story (frozen_in claims) q → byte_at memory q ≡ byte_at story.memory q) where
    table_same : (after : List ℕ) → ((q : ℕ) → q < 64 → (IsFlags q → ⊥) → byte_at after q ≡ byte_at story.memory q) → header.object_table after ≡ object_table story
    table_same after same =
        let high = same 0x0A (omega arith) (λ f. omega (arith, f.0)) in
        let low = same 0x0B (omega arith) (λ f. omega (arith, f.0)) in
        omega (arith, high, low)

    was : (q : ℕ) → q < 64 → (IsFlags q → ⊥) → byte_at memory q ≡ byte_at story.memory q
    was q low no_flags = fixed q (header_fixed story loaded.sound loaded.counted (frozen_in claims) q low no_flags)

    behind : (q : ℕ) → q < 64 → IsWithin (globals story) 480 q → ⊥
    behind q low within = let above = loaded.sound.globals_above in omega (arith, above, low, within.0)

    link_inside : (link : Link) → link_byte link < 9
    link_inside Parent = omega arith
    link_inside Sibling = omega arith
    link_inside Child = omega arith

    tree_put : IsTree memory story.objects → IsTree (write_word memory (globals story + 2 * (v - 16)) x) story.objects
    tree_put tree = record {
      small = λ link object least most.
          let before = table_same memory was in
          let after = table_same (write_word memory (globals story + 2 * (v - 16)) x) (λ q low no_flags. other q (behind q low) ∙ was q low no_flags) in
          let k = link_inside link in
          let q = object_place memory object + link_byte link in
          let same_place : object_place (write_word memory (globals story + 2 * (v - 16)) x) object + link_byte link ≡ q = omega (arith, before, after) in
          let apart : byte_at (write_word memory (globals story + 2 * (v - 16)) x) q ≡ byte_at memory q = other q (λ within. tables.apart q within (omega (arith, before, least), omega (arith, before, least, most, k))) in
          let there : byte_at (write_word memory (globals story + 2 * (v - 16)) x) (object_place (write_word memory (globals story + 2 * (v - 16)) x) object + link_byte link) ≡ byte_at memory q = ap (byte_at (write_word memory (globals story + 2 * (v - 16)) x)) same_place ∙ apart in
          let small : entry_byte memory object (link_byte link) ≤ story.objects = tree.small link object least most in
          let was_small : byte_at memory q ≤ story.objects = subst (λ (b : Bool). (if b then 0 else byte_at memory q) ≤ story.objects) (no_zero object least) small in
          rw (no_zero object least, there) was_small;
    }

  -- a global that is given a value of its set
  pub global_put : DescribedMemory o claims story memory → DescribedMemory o claims story (write_word memory (globals story + 2 * (v - 16)) x)
  global_put d = record {
    long = length-set (slice_set memory (globals story + 2 * (v - 16)) (x / 256)) (globals story + 2 * (v - 16) + 1) (x % 256) ∙ length-set memory (globals story + 2 * (v - 16)) (x / 256) ∙ d.long;
    values = values_put d.values;
    tree = tree_put d.fixed d.tree;
    fixed = λ q h. other q (λ g. h.unchanging (inr (inl g))) ∙ d.fixed q h;
  }
