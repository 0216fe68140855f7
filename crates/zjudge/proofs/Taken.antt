-- The memory that a save leads to is described where the dynamic memory of the save is.
use Rattle.std.proofs.Common.{◌≡◌, ◌↔◌, ◌⊎◌, inl, inr, ℕ, ◌+◌, ◌*◌, ◌<◌, ◌≤◌, Bool, false, if◌then◌else◌, List, [], ◌∷◌, length, Some, refl, sym, ap, subst, ◌∙◌, arith}
use Rattle.std.specs.Prelude.{◌≢◌, ◌==◌, slice_get}
use Rattle.std.specs.List.{AllByRecursion}
use Rattle.std.proofs.lemmas.Bool.{cases_lt}
use Rattle.std.proofs.lemmas.Option.{slice_get_within}
use Rattle.zstory.specs.Bytes.{byte_at, word_at}
use Rattle.zstory.specs.Header as header
use Rattle.zstory.specs.LoadedStory.{LoadedStory, IsSound, globals, object_table, static_base}
use Rattle.zstory.specs.Objects.{IsObjectCount, object_place}
use Rattle.zobj.specs.declared.tree.Link.{Link}
use Rattle.zobj.specs.declared.tree.Link.TheVariants.{Parent, Sibling, Child}
use Rattle.zobj.specs.Tree.{link_byte, linked}
use Rattle.zobj.proofs.Bytes.{no_zero}
use Rattle.zplace.specs.Bytes.{IsFixed}
use Rattle.zdomain.specs.Domain.{SetOperations, In}
use Rattle.zcert.specs.declared.parts.Fact.{Fact}
use Rattle.zrule.specs.Claims.{Claims, frozen_in}
use Rattle.zrule.specs.Described.{DescribedMemory, HaveFacts}
use Rattle.zrule.specs.Rules.{global_in}
use Rattle.zjudge.specs.Memory.{AreGlobals, IsDescribedMemory, IsKept}

-- a memory that has the dynamic memory of a save behind the header, and is else as loaded, but for Flags 2
pub record IsTaken (story : LoadedStory) (saved memory : List ℕ) : Type 0 where
  pub size : length memory ≡ length story.memory
  pub header : (p : ℕ) → p < 64 → p ≢ 16 → p ≢ 17 → byte_at memory p ≡ byte_at story.memory p
  pub dynamic : (p : ℕ) → 64 ≤ p → p < static_base story → byte_at memory p ≡ byte_at saved p
  pub static : (p : ℕ) → static_base story ≤ p → byte_at memory p ≡ byte_at story.memory p

module _ {V : Type 0} (o : SetOperations V) (claims : Claims V) (story : LoadedStory) (saved memory : List ℕ) (sound : IsSound story.memory) (counted : IsObjectCount story.memory story.objects) (few : length claims.globals ≤ 240) (taken : IsTaken story saved memory) where
  word_same : (p : ℕ) → 64 ≤ p → p + 1 < static_base story → word_at memory p ≡ word_at saved p
  word_same p above below =
      let high = taken.dynamic p above (omega (arith, below)) in
      let low = taken.dynamic (p + 1) (omega (arith, above)) below in
      rw (high, low) refl

  variable_same : (k : ℕ) → k < 240 → word_at memory (globals story + 2 * k) ≡ word_at saved (globals story + 2 * k)
  variable_same k inside =
      let above : 64 ≤ globals story = sound.globals_above in
      let below : globals story + 480 ≤ static_base story = sound.globals_within in
      word_same (globals story + 2 * k) (omega (arith, above)) (omega (arith, below, inside))

  global_same : (k : ℕ) (values : V) → slice_get claims.globals k ≡ Some values → word_at memory (globals story + 2 * k) ≡ word_at saved (globals story + 2 * k)
  global_same k values found = let inside = slice_get_within claims.globals k values found in variable_same k (omega (arith, inside, few))

  each_fact : (facts : List (Fact V)) → AreGlobals facts → AllByRecursion (λ (f : Fact V). In o f.values (global_in story saved f.global)) facts ↔ AllByRecursion (λ (f : Fact V). In o f.values (global_in story memory f.global)) facts
  each_fact [] small = (λ t. tt, λ t. tt)
  each_fact (f ∷ fs) small =
      let same = variable_same f.global small.0 in
      let rest = each_fact fs small.1 in
      (λ h. (subst (In o f.values) (sym same) h.0, rest.0 h.1), λ h. (subst (In o f.values) same h.0, rest.1 h.1))

  -- what is stated of globals holds in both or in neither
  pub facts_where : (p : ℕ) → AreGlobals (claims.facts p) → HaveFacts o claims story saved p ↔ HaveFacts o claims story memory p
  facts_where p small = each_fact (claims.facts p) small

  table_same : header.object_table memory ≡ object_table story
  table_same =
      let high = taken.header 0x0A (omega arith) (omega arith) (omega arith) in
      let low = taken.header 0x0B (omega arith) (omega arith) (omega arith) in
      omega (arith, high, low)

  link_inside : (link : Link) → link_byte link < 9
  link_inside Parent = omega arith
  link_inside Sibling = omega arith
  link_inside Child = omega arith

  link_same : (link : Link) (object : ℕ) → 1 ≤ object → object ≤ story.objects → linked link memory object ≡ byte_at saved (object_place story.memory object + link_byte link)
  link_same link object first last =
      let place : object_place memory object + link_byte link ≡ object_place story.memory object + link_byte link = (let t = table_same in omega (arith, t)) in
      let above : 64 ≤ object_table story = sound.defaults_above in
      let dynamic = (counted.entries object first last).dynamic in
      let inside = link_inside link in
      let some : (object == 0) ≡ false = no_zero object first in
      let byte : byte_at memory (object_place story.memory object + link_byte link) ≡ byte_at saved (object_place story.memory object + link_byte link) = taken.dynamic (object_place story.memory object + link_byte link) (omega (arith, above)) (omega (arith, dynamic, inside)) in
      ap (λ (b : Bool). if b then 0 else byte_at memory (object_place memory object + link_byte link)) some ∙ ap (byte_at memory) place ∙ byte

  fixed_kept : (p : ℕ) → ((p : ℕ) → IsFixed story (frozen_in claims) p → IsKept story saved p) → IsFixed story (frozen_in claims) p → byte_at memory p ≡ byte_at story.memory p
  fixed_kept p kept fixed = by (cases_lt p 64) (cases_lt p (static_base story))
    where
      by : (p < 64) ⊎ (64 ≤ p) → (p < static_base story) ⊎ (static_base story ≤ p) → byte_at memory p ≡ byte_at story.memory p
      by (inl low) b = taken.header p low (λ e. fixed.unchanging (inl (omega (arith, e), omega (arith, e)))) (λ e. fixed.unchanging (inl (omega (arith, e), omega (arith, e))))
      by (inr above) (inl below) = taken.dynamic p above below ∙ kept p fixed above below fixed.unchanging
      by (inr above) (inr from) = taken.static p from

  pub memory_where : IsDescribedMemory o claims story saved ↔ DescribedMemory o claims story memory
  memory_where = (
    λ d. record {
      long = taken.size;
      values = λ k values found. subst (In o values) (sym (global_same k values found)) (d.values k values found);
      tree = record { small = λ link object first last. subst (λ (n : ℕ). n ≤ story.objects) (sym (link_same link object first last)) (d.tree object first last link) };
      fixed = λ p fixed. fixed_kept p (λ q is. d.kept q is.closed) fixed;
    },
    λ d. record {
      values = λ k values found. subst (In o values) (global_same k values found) (d.values k values found);
      tree = λ object first last link. subst (λ (n : ℕ). n ≤ story.objects) (link_same link object first last) (d.tree.small link object first last);
      kept = λ p closed above below unchanging. sym (taken.dynamic p above below) ∙ d.fixed p (record { closed = closed; unchanging = unchanging });
    },
  )
