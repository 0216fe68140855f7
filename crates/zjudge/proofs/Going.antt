-- Whether play can go on from a save, and in a described state.
use Rattle.std.proofs.Common.{◌≡◌, ◌↔◌, ℕ, zero, suc, ◌+◌, ◌-◌, ◌<◌, ◌≤◌, Bool, true, false, List, [], ◌∷◌, length, drop, Ok, Err, refl, sym, ap, subst, ◌∙◌, arith}
use Rattle.std.specs.Prelude.{ℤ, pos, negsuc, ◌-ℤ◌, map, reverse, Some}
use Rattle.std.proofs.lemmas.Bool.{le-leb, lt-leb}
use Rattle.std.proofs.lemmas.Int.{ints}
use Rattle.std.proofs.lemmas.List.{get_or-drop, length-drop}
use Rattle.std.proofs.lemmas.Grind.{same_number_lists}
use Rattle.zstory.specs.Bytes.{AreBytes, byte_at}
use Rattle.zstory.specs.LoadedStory.{IsSound, LoadedStory, static_base}
use Rattle.zstory.specs.Objects.{IsObjectCount}
use Rattle.zcode.specs.Reading.{instruction_at}
use Rattle.zfault.specs.declared.event.Event.TheVariants as events
use Rattle.zlist.specs.Listing.{ListedCode, is_listed}
use Rattle.zquetzal.specs.declared.error.SaveError.TheVariants as errors
use Rattle.zquetzal.specs.Saved.{AreFrames, Frame as SavedFrame, IsSaved, Saved}
use Rattle.zstate.specs.State.{IsState, Scope, Setting, State, keeping_flags, scope_only}
use Rattle.zstate.specs.Step.{decoded, fetch}
use Rattle.zstate.specs.Saves.{going_on, resumed, save_place, saves, taken_frame, taken_memory, with_frames}
use Rattle.zstate.proofs.Saves.{kept_other, kept_size, resumed_is_state, taken_dynamic, taken_header, taken_size, taken_static}
use Rattle.zdomain.specs.Domain.{SetOperations}
use Rattle.zrule.specs.Claims.{Claims}
use Rattle.zrule.specs.Described.{Described, HaveFacts}
use Rattle.zjudge.specs.Frames.{AreDescribed}
use Rattle.zjudge.specs.Judging.{listed_setting}
use Rattle.zjudge.specs.Memory.{AreGlobals, IsDescribedMemory}
use Rattle.zjudge.proofs.Climbing.{climbed, stacked, turned_round}
use Rattle.zjudge.proofs.Taken.{IsTaken, facts_where, memory_where}

-- ---- the place

-- no byte is before the first
pub none_before : (scope : Scope) (memory : List ℕ) (place : ℕ) → place < 1 → saves (fetch scope (pos place -ℤ pos 1) memory) ≡ false
unfolding fetch
none_before scope memory zero below = refl
none_before scope memory (suc n) below = absurd (omega (arith, below))

pub one_before : (place : ℕ) → 1 ≤ place → pos place -ℤ pos 1 ≡ pos (place - 1)
one_before place some = omega (arith, ints, some)

-- what is fetched is listed
pub unlisted : (listing : ListedCode) (memory : List ℕ) (at : ℕ) → is_listed listing at ≡ false → saves (fetch (scope_only listing) (pos at) memory) ≡ false
unfolding fetch
unlisted listing memory at e = rw e refl

pub listed : (listing : ListedCode) (memory : List ℕ) (at : ℕ) → is_listed listing at ≡ true → saves (fetch (scope_only listing) (pos at) memory) ≡ saves (decoded (instruction_at (drop at memory)))
unfolding fetch
listed listing memory at e = rw e refl

-- memories with the same static memory have the same `save`s, where only such places are listed
module _ (story : LoadedStory) (memory : List ℕ) (size : length memory ≡ length story.memory) (same : (p : ℕ) → static_base story ≤ p → byte_at memory p ≡ byte_at story.memory p) (listing : ListedCode) (fixed : (p : ℕ) → is_listed listing p ≡ true → static_base story ≤ p) where
  drop_same : (p : ℕ) → static_base story ≤ p → drop p memory ≡ drop p story.memory
  drop_same p above = same_number_lists _ _ (length-drop p memory ∙ ap (λ n. n - p) size ∙ sym (length-drop p story.memory)) (λ k below.
      get_or-drop p memory k 0 ∙ same (p + k) (omega (arith, above)) ∙ sym (get_or-drop p story.memory k 0))

  pub saves_same : (z : ℤ) → saves (fetch (scope_only listing) z memory) ≡ saves (fetch (scope_only listing) z story.memory)
  unfolding fetch
  saves_same (negsuc n) = refl
  saves_same (pos p) = by (is_listed listing p) refl
    where
      by : (b : Bool) → is_listed listing p ≡ b → saves (fetch (scope_only listing) (pos p) memory) ≡ saves (fetch (scope_only listing) (pos p) story.memory)
      by true e = listed listing memory p e ∙ ap (λ (bytes : List ℕ). saves (decoded (instruction_at bytes))) (drop_same p (fixed p e)) ∙ sym (listed listing story.memory p e)
      by false e = unlisted listing memory p e ∙ sym (unlisted listing story.memory p e)

-- ---- going on

module _ (m : Setting) (saved : Saved) (s : State) where
  refused_there : saves (fetch m.scope (save_place saved) (resumed m.story saved s).memory) ≡ false → going_on m saved s ≡ Err errors.Place
  unfolding going_on
  refused_there e = rw e refl

  goes_on : saves (fetch m.scope (save_place saved) (resumed m.story saved s).memory) ≡ true → length saved.frames ≤ m.limit + 1 → going_on m saved s ≡ Ok (resumed m.story saved s)
  unfolding going_on
  goes_on e few = let f = le-leb (length saved.frames) (m.limit + 1) few in rw (e, f) refl

  too_deep : saves (fetch m.scope (save_place saved) (resumed m.story saved s).memory) ≡ true → m.limit + 1 < length saved.frames → going_on m saved s ≡ Err errors.NotDescribed
  unfolding going_on
  too_deep e many = let f = lt-leb (length saved.frames) (m.limit + 1) many in rw (e, f) refl

-- ---- in a described state

pos_same : (a b : ℕ) → pos a ≡ pos b → a ≡ b
pos_same a b e = cc

-- the memory that a save leads to
pub taken_there : (story : LoadedStory) (saved now : List ℕ) → IsSound story.memory → length saved ≡ static_base story → IsTaken story saved (keeping_flags now (taken_memory story saved))
taken_there story saved now sound long = record {
  size = kept_size now (taken_memory story saved) ∙ taken_size story saved sound long;
  header = λ p low a b. kept_other now (taken_memory story saved) p b ∙ taken_header story saved sound long p low a b;
  dynamic = λ p above below. kept_other now (taken_memory story saved) p (omega (arith, above)) ∙ taken_dynamic story saved sound long p above below;
  static = λ p from. let base : 64 ≤ static_base story = sound.static_base_above in kept_other now (taken_memory story saved) p (omega (arith, from, base)) ∙ taken_static story saved sound long p from;
}

module _ {V : Type 0} (o : SetOperations V) (claims : Claims V) (story : LoadedStory) (sound : IsSound story.memory) (counted : IsObjectCount story.memory story.objects) (few : length claims.globals ≤ 240) (small : (p : ℕ) → AreGlobals (claims.facts p)) where
  -- with the frames of a save in the place of those of a state
  described_frames : (limit : ℕ) (fs : List SavedFrame) (u : State) (saved : List ℕ) (place : ℕ) → AreFrames fs → IsTaken story saved u.memory → u.place ≡ pos place → IsState limit story (with_frames (map taken_frame (reverse fs)) u)
      → (IsDescribedMemory o claims story saved × AreDescribed o claims (map taken_frame fs) place × HaveFacts o claims story saved place) ↔ Described o claims limit story (with_frames (map taken_frame (reverse fs)) u)
  described_frames limit [] u saved place are taken at state = absurd are
  described_frames limit (f ∷ above) u saved place are taken at state =
      subst (λ (t : State). IsState limit story t → (IsDescribedMemory o claims story saved × AreDescribed o claims (taken_frame f ∷ map taken_frame above) place × HaveFacts o claims story saved place) ↔ Described o claims limit story t) (sym (turned_round f above u)) by state
    where
      by : IsState limit story (record u { frame = (stacked (taken_frame f) [] (map taken_frame above)).0; callers = (stacked (taken_frame f) [] (map taken_frame above)).1 }) → (IsDescribedMemory o claims story saved × AreDescribed o claims (taken_frame f ∷ map taken_frame above) place × HaveFacts o claims story saved place) ↔ Described o claims limit story (record u { frame = (stacked (taken_frame f) [] (map taken_frame above)).0; callers = (stacked (taken_frame f) [] (map taken_frame above)).1 })
      by held =
          let round = climbed o claims (taken_frame f) (map taken_frame above) place in
          let memory = memory_where o claims story saved u.memory sound counted few taken in
          let facts = facts_where o claims story saved u.memory sound counted few taken place (small place) in (
            λ all. let n = round.0 all.1 in record { is_state = held; at = place; place = at; entry = n.entry; listed = n.listed; fits = n.fits; callers = n.callers; memory = memory.0 all.0; facts = facts.0 all.2 },
            λ d.
                let same = pos_same d.at place (sym d.place ∙ at) in (
                  memory.1 d.memory,
                  round.1 (record { entry = d.entry; listed = subst (λ (p : ℕ). claims.entry p ≡ Some d.entry) same d.listed; fits = d.fits; callers = d.callers }),
                  facts.1 (subst (λ (p : ℕ). HaveFacts o claims story u.memory p) same d.facts),
                ),
          )

  module _ (listing : ListedCode) (limit : ℕ) (saved : Saved) (is : IsSaved story saved) (bytes : AreBytes saved.memory) (fixed : (p : ℕ) → is_listed listing p ≡ true → static_base story ≤ p) (s : State) (held : IsState limit story s) where
    taken : IsTaken story saved.memory (keeping_flags s.memory (taken_memory story saved.memory))
    taken = taken_there story saved.memory s.memory sound is.memory

    memory_is : (resumed story saved s).memory ≡ keeping_flags s.memory (taken_memory story saved.memory)
    memory_is = by (map taken_frame (reverse saved.frames)) _
      where
        by : (fs : List _) (u : State) → (with_frames fs u).memory ≡ u.memory
        by [] u = refl
        by (f ∷ fs) u = refl

    saves_there : saves (fetch (scope_only listing) (save_place saved) (resumed story saved s).memory) ≡ saves (fetch (scope_only listing) (save_place saved) story.memory)
    saves_there = ap (λ (memory : List ℕ). saves (fetch (scope_only listing) (save_place saved) memory)) memory_is ∙ saves_same story (keeping_flags s.memory (taken_memory story saved.memory)) taken.size taken.static listing fixed (save_place saved)

    state : length saved.frames ≤ limit + 1 → IsState limit story (resumed story saved s)
    state low = resumed_is_state (listed_setting story listing limit) saved s sound is bytes held low

    described_where : 1 ≤ saved.place → length saved.frames ≤ limit + 1 → (IsDescribedMemory o claims story saved.memory × AreDescribed o claims (map taken_frame saved.frames) (saved.place - 1) × HaveFacts o claims story saved.memory (saved.place - 1)) ↔ Described o claims limit story (resumed story saved s)
    described_where some low =
        described_frames limit saved.frames (record s { memory = keeping_flags s.memory (taken_memory story saved.memory); place = save_place saved; prompted = false; waiting = Some (events.Saved true) }) saved.memory (saved.place - 1) is.frames taken (one_before saved.place some) (state low)

    -- what is answered
    pub judged_place : saves (fetch (scope_only listing) (save_place saved) story.memory) ≡ false → going_on (listed_setting story listing limit) saved s ≡ Err errors.Place
    judged_place none = refused_there (listed_setting story listing limit) saved s (saves_there ∙ none)

    pub judged_there : saves (fetch (scope_only listing) (save_place saved) story.memory) ≡ true → length saved.frames ≤ limit + 1 → going_on (listed_setting story listing limit) saved s ≡ Ok (resumed story saved s)
    judged_there there low = goes_on (listed_setting story listing limit) saved s (saves_there ∙ there) low

    pub judged_too_deep : saves (fetch (scope_only listing) (save_place saved) story.memory) ≡ true → limit + 1 < length saved.frames → going_on (listed_setting story listing limit) saved s ≡ Err errors.NotDescribed
    judged_too_deep there many = too_deep (listed_setting story listing limit) saved s (saves_there ∙ there) many

    pub judged_described : 1 ≤ saved.place → length saved.frames ≤ limit + 1 → (IsDescribedMemory o claims story saved.memory × AreDescribed o claims (map taken_frame saved.frames) (saved.place - 1) × HaveFacts o claims story saved.memory (saved.place - 1)) ↔ Described o claims limit story (resumed story saved s)
    judged_described some low = described_where some low
