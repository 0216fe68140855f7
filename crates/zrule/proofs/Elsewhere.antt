-- Saves are good everywhere: one from which play goes on in one described state, and what was saved of a described state.
use Rattle.std.proofs.Common.{pos, Bool, ◌≡◌, inl, inr, ℕ, ◌+◌, ◌*◌, ◌/◌, ◌%◌, ◌<◌, ◌≤◌, ◌==◌, true, false, List, [], ◌∷◌, length, map, slice_set, Result, Ok, Some, ℤ, refl, sym, ap, subst, ◌∙◌, arith}
use Rattle.std.specs.Prelude.{nat_le, reverse}
use Rattle.std.proofs.lemmas.Bool.{cases_lt}
use Rattle.std.proofs.lemmas.List.{get_or-set_same, length-map, length-reverse, length-set, set-set}
use Rattle.zfault.specs.declared.event.Event.TheVariants as events
use Rattle.zstory.specs.Bytes.{byte_at}
use Rattle.zstory.specs.LoadedStory.{LoadedStory, static_base}
use Rattle.zquetzal.specs.declared.error.SaveError.{SaveError}
use Rattle.zquetzal.specs.declared.error.SaveError.TheVariants as errors
use Rattle.zquetzal.specs.declared.limits.TheConstants.{MOST_FRAMES}
use Rattle.zquetzal.specs.Grammar.{save_text}
use Rattle.zquetzal.specs.Reading.{are_frames, body_of, frames_of, frames_within, is_of, parts_at, reading}
use Rattle.zquetzal.specs.Saved.{Frame as SavedFrame, Saved, origin_of}
use Rattle.zquetzal.specs.Steps.{◌>>=◌}
use Rattle.zquetzal.proofs.Steps.{bind_ok, need_ok, ok_is}
use Rattle.zquetzal.proofs.Saves.{again, written}
use Rattle.zdomain.specs.Domain.{SetOperations}
use Rattle.zstate.specs.State.{Frame, IsState, Scope, State, Setting, keeping_flags, most_limit}
use Rattle.zstate.specs.Saves.{IsOfStory, going_on, restoring, resumed, save_place, saved_of, saves, taken_frame, taken_memory, with_frames}
use Rattle.zstate.specs.Step.{fetch}
use Rattle.zstate.proofs.Saves.{saves_go_on, states_are_saved}
use Rattle.zrule.specs.declared.rule.Rule.TheVariants as rules
use Rattle.zrule.specs.Claims.{Claims, frozen_in}
use Rattle.zrule.specs.Rules.{SupportsWhere}
use Rattle.zrule.specs.Described.{Described, IsAcceptedIn, IsFineSave, IsLoadedStory}
use Rattle.zrule.proofs.Restarting.{elsewhere_described}
use Rattle.zrule.proofs.Stepping.{read_within}
use Rattle.zrule.proofs.Unchanged.{header_fixed, static_fixed}

-- ---- what was read has a frame

some_frames : (story : LoadedStory) (bytes : List ℕ) (saved : Saved) → reading story bytes ≡ Ok saved → are_frames saved.frames ≡ true
unfolding reading frames_of
some_frames story bytes saved e =
    let a = bind_ok (body_of bytes) _ _ e in
    let b = bind_ok (parts_at a.0) _ _ a.2 in
    let n = need_ok (is_of story b.0.header) _ _ _ b.2 in
    let m = need_ok (length b.0.memory == static_base story) _ _ _ n.1 in
    let f = bind_ok (frames_of b.0.stacks) _ _ m.1 in
    let g = bind_ok (frames_within MOST_FRAMES b.0.stacks) _ _ f.1 in
    let k = need_ok (are_frames g.0) _ _ _ g.2 in
    let frames : f.0 ≡ saved.frames = ap (λ (s : Saved). s.frames) (ok_is _ saved f.2) in
    subst (λ (fs : List SavedFrame). are_frames fs ≡ true) (ok_is _ _ k.1 ∙ frames) k.0

longer : (fs : List SavedFrame) → are_frames fs ≡ true → 0 < length fs
longer [] some = absurd cc
longer (f ∷ fs) some = omega arith

-- ---- where play goes on in another state

flags_again : (now before memory : List ℕ) → 17 < length memory → keeping_flags now (keeping_flags before memory) ≡ keeping_flags now memory
flags_again now before memory long =
    let was = byte_at memory 17 / 4 * 4 + byte_at before 17 % 4 in
    let is : byte_at (keeping_flags before memory) 17 ≡ was = get_or-set_same memory 17 was 0 long in
    let same : byte_at (keeping_flags before memory) 17 / 4 * 4 + byte_at now 17 % 4 ≡ byte_at memory 17 / 4 * 4 + byte_at now 17 % 4 = omega (arith, is) in
    ap (slice_set (keeping_flags before memory) 17) same ∙ set-set memory 17 was _

-- a state at a `save` that was kept, of which nothing is as before but where random numbers come from, and two bits
abbrev moved : State → State → State
moved now t = record t { memory = keeping_flags now.memory t.memory; random = now.random; prompted = false; waiting = Some (events.Saved true) }

memory_laid : (fs : List Frame) (s : State) → (with_frames fs s).memory ≡ s.memory
memory_laid [] s = refl
memory_laid (f ∷ fs) s = refl

-- where there is a frame, all else is the save's
laid_again : (now s : State) (fs : List Frame) (memory : List ℕ) (place : ℤ) → 0 < length fs → 17 < length memory
    → with_frames fs (record now { memory = keeping_flags now.memory memory; place = place; prompted = false; waiting = Some (events.Saved true) })
    ≡ moved now (with_frames fs (record s { memory = keeping_flags s.memory memory; place = place; prompted = false; waiting = Some (events.Saved true) }))
laid_again now s [] memory place some long = absurd (omega (arith, some))
laid_again now s (f ∷ fs) memory place some long =
    ap (λ (bytes : List ℕ). let t : State = record now { memory = bytes; frame = f; callers = fs; place = place; prompted = false; waiting = Some (events.Saved true) } in t) (sym (flags_again now.memory s.memory memory long))

pub goes_where : (m : Setting) (saved : Saved) (s t : State) → going_on m saved s ≡ Ok t → resumed m.story saved s ≡ t
unfolding going_on
goes_where m saved s t e =
    let there = need_ok (saves (fetch m.scope (save_place saved) (resumed m.story saved s).memory)) errors.Place _ t e in
    let few = need_ok (nat_le (length saved.frames) (m.limit + 1)) errors.NotDescribed _ t there.1 in
    ok_is _ t few.1

module _ {V : Type 0} (o : SetOperations V) (claims : Claims V) (m : Setting) (loaded : IsLoadedStory m.story) {marked : ℕ → Bool} (supports : SupportsWhere o claims marked m.story) where
  -- what isn't described makes no difference
  moved_described : (now t : State) → IsState m.limit m.story now → Described o claims m.limit m.story t → Described o claims m.limit m.story (moved now t)
  moved_described now t is d = elsewhere_described o claims m.story loaded supports m.limit now.memory t now.random false (Some (events.Saved true)) is.count d

  -- play goes on everywhere, in any scope, as it goes on in one state
  goes_alike : (scope : Scope) (bytes : List ℕ) (s t now u : State) → length t.memory ≡ length m.story.memory → restoring m bytes s ≡ Ok t → restoring (record m { scope = scope }) bytes now ≡ Ok u → moved now t ≡ u
  goes_alike scope bytes s t now u long goes again =
      let a = bind_ok (reading m.story bytes) _ t goes in
      let b = bind_ok (reading m.story bytes) _ u again in
      let saved : Saved = a.0 in
      let same : b.0 ≡ saved = ok_is _ _ (sym b.1 ∙ a.1) in
      let here : resumed m.story saved s ≡ t = goes_where m saved s t a.2 in
      let there : resumed m.story saved now ≡ u = goes_where (record m { scope = scope }) saved now u (subst (λ (x : Saved). going_on (record m { scope = scope }) x now ≡ Ok u) same b.2) in
      let fs : List Frame = map taken_frame (reverse saved.frames) in
      let memory : List ℕ = taken_memory m.story saved.memory in
      let whole : length (keeping_flags s.memory memory) ≡ length t.memory = ap length (sym (memory_laid fs (record s { memory = keeping_flags s.memory memory; place = save_place saved; prompted = false; waiting = Some (events.Saved true) }))) ∙ ap (λ (x : State). length x.memory) here in
      let size : length (keeping_flags s.memory memory) ≡ length memory = length-set memory 17 _ in
      let least = loaded.sound.least_length in
      let some = longer saved.frames (some_frames m.story bytes saved a.1) in
      let as_many : length fs ≡ length saved.frames = length-map (reverse saved.frames) taken_frame ∙ length-reverse saved.frames in
      ap (moved now) (sym here) ∙ sym (laid_again now s fs memory (save_place saved) (omega (arith, as_many, some)) (omega (arith, whole, size, long, least))) ∙ there

  -- so what is accepted in one state leads to described states alone
  pub accepted_fine : (scope : Scope) (bytes : List ℕ) (s : State) → IsAcceptedIn o claims m bytes s → IsFineSave o claims (record m { scope = scope }) bytes
  accepted_fine scope bytes s (t, goes, d) now u is again = subst (Described o claims m.limit m.story) (goes_alike scope bytes s t now u d.memory.long goes again) (moved_described now t is d)

  -- a described state has its story's header, but for Flags 2, and static memory
  of_story : (s : State) → Described o claims m.limit m.story s → IsOfStory m.story s.memory
  of_story s d p (inl (low, high, last)) = d.memory.fixed p (header_fixed m.story loaded.sound loaded.counted (frozen_in claims) p low (λ f. elim (cases_lt p 17) [ inl first ↦ high (omega (arith, f, first)) | inr second ↦ last (omega (arith, f, second)) ]))
  of_story s d p (inr static) = d.memory.fixed p (static_fixed m.story loaded.sound loaded.counted (frozen_in claims) p static)

  -- and what was saved of it is accepted in every state
  pub saved_accepted : (s now : State) → ((p : ℕ) → s.place ≡ pos p → marked p ≡ false) → m.limit ≤ most_limit → Described o claims m.limit m.story s → saves (fetch m.scope s.place s.memory) ≡ true → IsState m.limit m.story now → IsAcceptedIn o claims m (save_text (origin_of m.story) (saved_of m.story s)) now
  saved_accepted s now plain low d asked is =
      let found = supports.each d.at d.entry d.listed (plain d.at d.place) rules.Decodes in
      let inside = (read_within m.story.memory d.at found.0 found.1.decodes).1 in
      let static = found.1.static in
      let base = loaded.sound.static_base_above in
      let size = d.memory.long in
      let can = states_are_saved m.limit m.story s d.at loaded.sound d.is_state low d.place (omega (arith, inside, size)) in
      let read : reading m.story (save_text (origin_of m.story) (saved_of m.story s)) ≡ Ok (saved_of m.story s) = again m.story _ _ (written m.story (saved_of m.story s) loaded.sound can) in
      let goes = saves_go_on m s now d.at loaded.sound d.is_state (of_story s d) (is.memory ∙ sym size) d.place (omega (arith, static, base)) asked in
      (moved now s, ap (λ (r : Result Saved SaveError). r >>= λ saved. going_on m saved now) read ∙ goes, moved_described now s is d)
