-- A story that begins anew, and a memory in which the two bits stay that no restart and no save changes.
use Rattle.std.proofs.Common.{◌≡◌, ◌≢◌, ◌⊎◌, inl, inr, ℕ, ◌+◌, ◌*◌, ◌/◌, ◌%◌, ◌≤◌, Bool, false, List, [], ◌∷◌, length, Option, None, refl, ap, ◌∙◌, arith}
use Rattle.std.proofs.lemmas.Bool.Decides.{eqb_tells}
use Rattle.std.proofs.lemmas.List.{length-set, get_or-set_other, get_or-set_same}
use Rattle.zfault.specs.declared.event.Event.{Event}
use Rattle.zstory.specs.Bytes.{AreBytes, byte_at}
use Rattle.zstory.specs.Header as header
use Rattle.zstory.specs.LoadedStory.{LoadedStory, globals, object_table}
use Rattle.zobj.specs.Entries.{HasTable}
use Rattle.zobj.specs.Kept.{DiffersOnly}
use Rattle.std.specs.List.{AllByRecursion}
use Rattle.zdomain.specs.Domain.{SetOperations, In}
use Rattle.zplace.specs.Bytes.{IsFixed, IsObjectState, IsWithin}
use Rattle.zstate.specs.declared.mode.RandomMode.{RandomMode}
use Rattle.zstate.specs.State.{IsCount, IsState, State, keeping_flags, opening, restarted}
use Rattle.zrule.specs.Claims.{Claims, frozen_in}
use Rattle.zcert.specs.declared.parts.Fact.{Fact}
use Rattle.zrule.specs.Rules.{SupportsWhere, global_in}
use Rattle.zrule.specs.Described.{Described, DescribedMemory, IsLoadedStory}
use Rattle.zrule.proofs.Given.{described_aside}
use Rattle.zrule.proofs.Opening.{opening_described}
use Rattle.zrule.proofs.Rewriting.{written_described}

module _ (now memory : List ℕ) where
  -- no byte but that of these bits is written
  other : (p : ℕ) → p ≢ 17 → byte_at (keeping_flags now memory) p ≡ byte_at memory p
  other p differs = get_or-set_other memory 17 p _ 0 differs

  differ : DiffersOnly (λ p. p ≡ 17) memory (keeping_flags now memory)
  differ = record { size = length-set memory 17 _; rest = λ p. elim (eqb_tells p 17) [ inl same ↦ inr same.1 | inr differs ↦ inl (other p differs.1) ] }

  same_table : header.object_table (keeping_flags now memory) ≡ header.object_table memory
  same_table = let high = other 10 (λ e. omega (arith, e)) in let low = other 11 (λ e. omega (arith, e)) in omega (arith, high, low)

  -- it takes its other bits from the memory
  stay_bytes : AreBytes memory → 18 ≤ length memory → AreBytes (keeping_flags now memory)
  stay_bytes bytes long p = elim (eqb_tells p 17) [
    | inl same ↦ (let is : byte_at (keeping_flags now memory) p ≡ byte_at memory 17 / 4 * 4 + byte_at now 17 % 4 = ap (byte_at (keeping_flags now memory)) same.1 ∙ get_or-set_same memory 17 _ 0 (omega (arith, long)) in let byte = bytes 17 in omega (arith, is, byte))
    | inr differs ↦ (let is = other p differs.1 in let byte = bytes p in omega (arith, is, byte))
  ]

-- a state stays one
flags_keep : (limit : ℕ) (story : LoadedStory) (now : List ℕ) (s : State) → IsState limit story s → IsState limit story (record s { memory = keeping_flags now s.memory })
flags_keep limit story now s is =
    let size : length (keeping_flags now s.memory) ≡ length s.memory = length-set s.memory 17 _ in
    let table = same_table now s.memory in
    let has = is.objects in
    record {
      memory = size ∙ is.memory;
      bytes = stay_bytes now s.memory is.bytes (omega (arith, has.above, has.within));
      objects = record { few = has.few; above = omega (arith, has.above, table); within = omega (arith, has.within, table, size) };
      tables = table ∙ is.tables;
      frames = is.frames;
      few = is.few;
      count = is.count;
    }

module _ {V : Type 0} (o : SetOperations V) (claims : Claims V) (story : LoadedStory) (loaded : IsLoadedStory story) {marked : ℕ → Bool} (supports : SupportsWhere o claims marked story) where
  -- that byte belongs to no table
  flags_apart : (p : ℕ) → p ≡ 17 → (IsWithin (globals story) 480 p ⊎ IsObjectState story p) → ⊥
  flags_apart p is (inl within) = let above = loaded.sound.globals_above in omega (arith, is, above, within.0)
  flags_apart p is (inr state) = let above = loaded.sound.defaults_above in let inside = state.inside in omega (arith, is, above, inside.0)

  flags_unfixed : (p : ℕ) → p ≡ 17 → IsFixed story (frozen_in claims) p → ⊥
  flags_unfixed p is fixed = fixed.unchanging (inl (omega (arith, is), omega (arith, is)))

  flags_stay : (now memory : List ℕ) → HasTable memory story.objects → header.object_table memory ≡ object_table story → DescribedMemory o claims story memory → DescribedMemory o claims story (keeping_flags now memory)
  flags_stay now memory has same d =
      written_described o claims story supports.tables supports.few memory d has same (λ p. p ≡ 17) flags_apart flags_unfixed (keeping_flags now memory) (differ now memory) (same_table now memory ∙ same)

  -- a described state stays one with these bits of another memory
  flags_described : (limit : ℕ) (now : List ℕ) (s : State) → Described o claims limit story s → Described o claims limit story (record s { memory = keeping_flags now s.memory })
  flags_described limit now s d = record {
    is_state = flags_keep limit story now s d.is_state;
    at = d.at;
    place = d.place;
    entry = d.entry;
    listed = d.listed;
    fits = record { in_locals = d.fits.in_locals; in_slots = d.fits.in_slots };
    callers = d.callers;
    facts = facts_same (claims.facts d.at) d.facts;
    memory = flags_stay now s.memory d.is_state.objects d.is_state.tables d.memory;
  }
    where
      word_same : (k : ℕ) → global_in story (keeping_flags now s.memory) k ≡ global_in story s.memory k
      word_same k =
          let above = loaded.sound.globals_above in
          let high = other now s.memory (globals story + 2 * k) (λ e. omega (arith, e, above)) in
          let low = other now s.memory (globals story + 2 * k + 1) (λ e. omega (arith, e, above)) in
          rw (high, low) refl

      facts_same : (fs : List (Fact V)) → AllByRecursion (λ (f : Fact V). In o f.values (global_in story s.memory f.global)) fs → AllByRecursion (λ (f : Fact V). In o f.values (global_in story (keeping_flags now s.memory) f.global)) fs
      facts_same [] hold = tt
      facts_same (f ∷ fs) hold = (rw (word_same f.global) hold.0, facts_same fs hold.1)

  -- and with all that isn't described as it is elsewhere: so play goes on from a save
  pub elsewhere_described : (limit : ℕ) (now : List ℕ) (s : State) (mode : RandomMode) (prompted : Bool) (waiting : Option Event) → IsCount mode → Described o claims limit story s → Described o claims limit story (record s { memory = keeping_flags now s.memory; random = mode; prompted = prompted; waiting = waiting })
  elsewhere_described limit now s mode prompted waiting count d =
      described_aside o claims story limit (record s { memory = keeping_flags now s.memory }) mode prompted waiting count (flags_described limit now s d)

  -- and a story begins anew as it opened
  pub restarted_described : (limit : ℕ) (s : State) → IsCount s.random → Described o claims limit story (restarted story s)
  restarted_described limit s count = elsewhere_described limit s.memory (opening story) s.random false None count (opening_described o claims story limit loaded supports)
