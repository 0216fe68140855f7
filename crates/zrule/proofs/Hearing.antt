-- The buffers of a line, in a memory that claims describe.
use Rattle.std.proofs.Common.{◌≡◌, ◌⊎◌, inl, inr, ℕ, ◌+◌, ◌*◌, ◌≤◌, Bool, true, false, List, length, Option, Some, None, Ok, refl, sym, subst, ◌∙◌, arith}
use Rattle.std.specs.Prelude.{MatchOption, nat_le, nat_lt}
use Rattle.std.proofs.lemmas.Bool.{and_from, cases_lt, le-leb, lt-ltb}
use Rattle.std.proofs.lemmas.List.{get_or_past}
use Rattle.zstory.specs.Bytes.{AreBytes, byte_at}
use Rattle.zstory.specs.Header as header
use Rattle.zstory.specs.LoadedStory.{LoadedStory, object_table, static_base}
use Rattle.zline.specs.Kept.{IsBeside}
use Rattle.zline.specs.Storing.{with_line}
use Rattle.zline.proofs.Keeping.{lines_stay}
use Rattle.zobj.specs.Entries.{HasTable}
use Rattle.zdomain.specs.Domain.{SetOperations, AreSound, In}
use Rattle.zfault.specs.declared.event.Event.{Event}
use Rattle.zfault.specs.declared.event.Event.TheVariants as events
use Rattle.zfault.specs.declared.item.Status.{Status as StatusLine}
use Rattle.zfault.specs.declared.pause.Need.TheVariants as needs
use Rattle.zstate.specs.Step.{Effect, are_large, are_open, are_sized, are_writable, buffered, hearing, proceeds, rewriting, showing}
use Rattle.zstate.proofs.Effects.{has_buffers, line_rewritten}
use Rattle.zplace.specs.Bytes.{IsWithin, IsOpen}
use Rattle.zruns.specs.Buffers.{IsParseBuffer, IsTextBuffer}
use Rattle.zrule.specs.Claims.{Claims, frozen_in}
use Rattle.zrule.specs.Rules.{HasDisjointTables}
use Rattle.zrule.specs.Described.{DescribedMemory, IsLoadedStory}
use Rattle.zrule.proofs.Standing.{prompting}
use Rattle.zrule.proofs.Rewriting.{stored_described}
use Rattle.zrule.proofs.Storing.{all_writable}

module _ {V : Type 0} (o : SetOperations V) (lawful : AreSound o) (claims : Claims V) (story : LoadedStory) (loaded : IsLoadedStory story) (tables : HasDisjointTables story (frozen_in claims)) (few : length claims.globals ≤ 240) (memory : List ℕ) (d : DescribedMemory o claims story memory) (t p : ℕ) (text : IsTextBuffer story (frozen_in claims) t) (parse : IsParseBuffer story (frozen_in claims) p) where
  -- the sizes are those that were judged
  text_same : byte_at memory t ≡ byte_at story.memory t
  text_same = d.fixed t text.fixed

  parse_same : byte_at memory p ≡ byte_at story.memory p
  parse_same = d.fixed p parse.fixed

  -- a byte that isn't 0 is in memory
  there : (q : ℕ) → 1 ≤ byte_at memory q → nat_lt q (length memory) ≡ true
  there q some = elim (cases_lt q (length memory)) [ inl inside ↦ lt-ltb q (length memory) inside | inr past ↦ absurd (let e : byte_at memory q ≡ 0 = get_or_past memory q 0 past in omega (arith, e, some)) ]

  sized : are_sized t p memory ≡ true
  sized = and_from (nat_lt t (length memory)) (nat_lt p (length memory)) (there t (omega (arith, text_same, text.large))) (there p (omega (arith, parse_same, parse.large)))

  large : are_large t p memory ≡ true
  large = and_from (nat_le 2 (byte_at memory t)) (nat_le 1 (byte_at memory p)) (le-leb 2 (byte_at memory t) (omega (arith, text_same, text.large))) (le-leb 1 (byte_at memory p) (omega (arith, parse_same, parse.large)))

  -- the bytes behind each size
  abbrev InText : ℕ → Type 0
  InText = IsWithin (t + 1) (byte_at memory t)

  abbrev InParse : ℕ → Type 0
  InParse = IsWithin (p + 1) (1 + 4 * byte_at memory p)

  text_free : (q : ℕ) → InText q → IsOpen story (frozen_in claims) q
  text_free q inside = text.free q (inside.0, omega (arith, inside.1, text_same))

  parse_free : (q : ℕ) → InParse q → IsOpen story (frozen_in claims) q
  parse_free q inside = parse.free q (inside.0, omega (arith, inside.1, parse_same))

  writable : are_open story t p memory ≡ true
  writable = and_from (are_writable story (t + 1) (byte_at memory t)) (are_writable story (p + 1) (1 + 4 * byte_at memory p))
      (all_writable story (frozen_in claims) (byte_at memory t) (t + 1) (λ j below. text_free (t + 1 + j) (omega arith, omega (arith, below))))
      (all_writable story (frozen_in claims) (1 + 4 * byte_at memory p) (p + 1) (λ j below. parse_free (p + 1 + j) (omega arith, omega (arith, below))))

  -- so nothing keeps a line from being stored
  pub line_taken : buffered story t p memory ≡ Ok tt
  unfolding buffered
  line_taken = let s = sized in let l = large in let w = writable in rw (s, l, w) refl

  beside : (from count q : ℕ) → IsBeside from count q ⊎ IsWithin from count q
  beside from count q = elim (cases_lt q from) [ inl low ↦ inl (inl low) | inr least ↦ elim (cases_lt q (from + count)) [ inl inside ↦ inr (least, inside) | inr past ↦ inl (inr past) ] ]

  whole : static_base story ≤ length memory
  whole = let base : static_base story ≤ length story.memory = loaded.sound.static_base_within in let long = d.long in omega (arith, base, long)

  -- and with one, what is said of memory stays so
  pub line_described : (line : List ℕ) → AreBytes memory → HasTable memory story.objects → header.object_table memory ≡ object_table story → DescribedMemory o claims story (with_line story.memory t p line memory)
  line_described line bytes has same =
      let stays = lines_stay story.memory memory line t p (has_buffers story t p memory whole large writable) in
      let rests : (q : ℕ) → (byte_at (with_line story.memory t p line memory) q ≡ byte_at memory q) ⊎ (InText q ⊎ InParse q) = λ q. (
      elim (beside (t + 1) (byte_at memory t) q) [
        | inr inside ↦ inr (inl inside)
        | inl outside ↦ elim (beside (p + 1) (1 + 4 * byte_at memory p) q) [ inr inside ↦ inr (inr inside) | inl clear ↦ inl (stays.same q outside clear) ]
      ]) in
      stored_described o claims story tables few memory d has same
      (λ q. InText q ⊎ InParse q) (λ q is. elim is [ inl inside ↦ text_free q inside | inr inside ↦ parse_free q inside ])
      (with_line story.memory t p line memory) (record { size = stays.size; rest = rests })
      ((line_rewritten story t p line memory loaded.sound whole bytes large writable).tables ∙ same)

-- a set of buffers has the one that is read
pub buffer_read : {V : Type 0} (o : SetOperations V) → AreSound o → (set : V) (x : ℕ) (IsThere : ℕ → Type 0) → In o set x → MatchOption (o.known set) ⊥ IsThere → IsThere x
buffer_read o lawful set x IsThere member rule = by (o.known set) refl rule
  where
    by : (k : Option ℕ) → o.known set ≡ k → MatchOption k ⊥ IsThere → IsThere x
    by None e h = absurd h
    by (Some n) e h = let same : x ≡ n = lawful.known set n x e member in subst IsThere (sym same) h

-- what a reading of a line comes to: a prompt, a line that is stored, or the need of one
pub data Hears (story : LoadedStory) (t p : ℕ) (memory : List ℕ) (shown : StatusLine) (effect : Effect) : Type 0 where
  first_asked : effect ≡ prompting shown → Hears story t p memory shown effect
  line_stored : (line : List ℕ) → effect ≡ record (rewriting (with_line story.memory t p line memory)) { uses = Some needs.Line } → Hears story t p memory shown effect
  line_needed : effect ≡ record proceeds { needs = Some needs.Line } → Hears story t p memory shown effect

pub hearing_comes : (story : LoadedStory) (t p : ℕ) (memory : List ℕ) (shown : StatusLine) (prompted : Bool) (waiting : Option Event) → Hears story t p memory shown (hearing story t p memory prompted waiting (showing shown))
hearing_comes story t p memory shown false waiting = first_asked refl
hearing_comes story t p memory shown true (Some (events.Line line)) = line_stored line refl
hearing_comes story t p memory shown true (Some (events.Random w)) = line_needed refl
hearing_comes story t p memory shown true (Some (events.Saved kept)) = line_needed refl
hearing_comes story t p memory shown true (Some events.NotRestored) = line_needed refl
hearing_comes story t p memory shown true None = line_needed refl
