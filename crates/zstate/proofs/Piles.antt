-- Frames of a save, laid one above another.
use Rattle.std.proofs.Common.{◌≡◌, ℕ, List, [], ◌∷◌, ◌++◌, refl, sym, ap, ◌∙◌, append_assoc}
use Rattle.std.specs.Prelude.{ℤ, Some, true, false, map, reverse}
use Rattle.zfault.specs.declared.event.Event.TheVariants as events
use Rattle.zstory.specs.LoadedStory.{LoadedStory}
use Rattle.std.proofs.lemmas.List.{append-nil, map-append, reverse-append}
use Rattle.zquetzal.specs.Saved.{AreFrames, Frame as SavedFrame, Saved}
use Rattle.zstate.specs.declared.mode.RandomMode.{RandomMode}
use Rattle.zstate.specs.State.{Frame, State, keeping_flags}
use Rattle.zstate.specs.Packed.{Chain, above, chain_from, piled, with_top}
use Rattle.zstate.specs.Saves.{resumed, save_place, taken_frame, taken_memory, with_frames}

-- one frame more: its head first, and then its stack
pub piled_on : (f : SavedFrame) (before : Chain) (rest : List SavedFrame) (begun after : Chain) → begun ≡ above (record (taken_frame f) { stack = [] }) before → after ≡ with_top (reverse f.stack ++ begun.newest.stack) begun → piled (map taken_frame rest) after ≡ piled (map taken_frame (f ∷ rest)) before
unfolding piled
piled_on f before rest begun after is whole =
    ap (piled (map taken_frame rest)) (whole ∙ ap (λ (c : Chain). with_top (reverse f.stack ++ c.newest.stack) c) is ∙ ap (λ (ws : List ℕ). above (record (taken_frame f) { stack = ws }) before) (append-nil (reverse f.stack)))

pub piled_none : (fs : List SavedFrame) (c : Chain) → fs ≡ [] → piled (map taken_frame fs) c ≡ c
unfolding piled
piled_none fs c is = ap (λ (gs : List SavedFrame). piled (map taken_frame gs) c) is

abbrev listed : Chain → List Frame
listed c = c.newest ∷ c.callers

-- the newest comes first
piled_listed : (fs : List Frame) (c : Chain) → listed (piled fs c) ≡ reverse fs ++ listed c
unfolding piled
piled_listed [] c = refl
piled_listed (f ∷ fs) c = piled_listed fs (above f c) ∙ sym (append_assoc (reverse fs) (f ∷ []) (listed c)) ∙ ap (λ (gs : List Frame). gs ++ listed c) (sym (reverse-append (f ∷ []) fs))

reverse_map : (fs : List SavedFrame) → map taken_frame (reverse fs) ≡ reverse (map taken_frame fs)
reverse_map [] = refl
reverse_map (f ∷ fs) =
    ap (map taken_frame) (reverse-append (f ∷ []) fs) ∙ map-append taken_frame (reverse fs) (f ∷ []) ∙ ap (λ (gs : List Frame). gs ++ taken_frame f ∷ []) (reverse_map fs)
    ∙ sym (reverse-append (taken_frame f ∷ []) (map taken_frame fs))

from_listed : (f : Frame) (fs : List Frame) → listed (chain_from (f ∷ fs)) ≡ reverse (f ∷ fs)
from_listed f fs = piled_listed fs (record { newest = f; callers = [] }) ∙ sym (reverse-append (f ∷ []) fs)

-- the frames of a save, which has some, stand in the state that goes on from it
pub laid_is : (f : SavedFrame) (fs : List SavedFrame) (s : State) → with_frames (map taken_frame (reverse (f ∷ fs))) s ≡ record s { frame = (chain_from (map taken_frame (f ∷ fs))).newest; callers = (chain_from (map taken_frame (f ∷ fs))).callers }
laid_is f fs s = ap (λ (gs : List Frame). with_frames gs s) (reverse_map (f ∷ fs) ∙ sym (from_listed (taken_frame f) (map taken_frame fs)))

-- the parts of the state that goes on from a save
pub resumed_is : (story : LoadedStory) (saved : Saved) (s : State) (memory : List ℕ) (c : Chain) (place : ℤ) (random : RandomMode) → AreFrames saved.frames → memory ≡ keeping_flags s.memory (taken_memory story saved.memory) → c ≡ chain_from (map taken_frame saved.frames) → place ≡ save_place saved → random ≡ s.random →
    record { memory = memory; frame = c.newest; callers = c.callers; place = place; random = random; prompted = false; waiting = Some (events.Saved true) } ≡ resumed story saved s
resumed_is story saved s memory c place random frames same chain there mode = by saved.frames frames chain
  where
    at_memory : State
    at_memory = record s { memory = keeping_flags s.memory (taken_memory story saved.memory); place = save_place saved; prompted = false; waiting = Some (events.Saved true) }

    by : (fs : List SavedFrame) → AreFrames fs → c ≡ chain_from (map taken_frame fs) → record { memory = memory; frame = c.newest; callers = c.callers; place = place; random = random; prompted = false; waiting = Some (events.Saved true) } ≡ with_frames (map taken_frame (reverse fs)) at_memory
    by [] none is = absurd none
    by (f ∷ fs) some is = rw (same, there, mode, is) (sym (laid_is f fs at_memory))
