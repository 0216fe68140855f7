-- What is saved of a state, and how play goes on from a save (Z 15 save, restore; Q 3 to 6).
use Rattle.std.specs.Prelude.{◌≡◌, ◌≢◌, ◌⊎◌, ℕ, ◌+◌, ◌<◌, ◌≤◌, ◌+ℤ◌, ◌-ℤ◌, nat_le, Bool, true, false, List, [], ◌∷◌, length, map, reverse, take, drop, slice_set, Some, Result, Ok, Err, ℤ, pos}
use Rattle.zstory.specs.Bytes.{AreBytes, byte_at}
use Rattle.zstory.specs.LoadedStory.{IsSound, LoadedStory, static_base}
use Rattle.zfault.specs.declared.event.Event.TheVariants as events
use Rattle.zcode.specs.declared.operation.Operation.{Operation}
use Rattle.zcode.specs.declared.operation.Operation.TheVariants.{Save}
use Rattle.zcode.specs.Instruction.{Instruction}
use Rattle.zcode.specs.Operation.{operation_of}
use Rattle.zline.specs.Storing.{with_bytes}
use Rattle.zquetzal.specs.declared.error.SaveError.{SaveError}
use Rattle.zquetzal.specs.declared.error.SaveError.TheVariants as errors
use Rattle.zquetzal.specs.Saved.{Frame as SavedFrame, IsSaved, Saved}
use Rattle.zquetzal.specs.Reading.{reading}
use Rattle.zquetzal.specs.Steps.{◌>>=◌, need}
use Rattle.zstate.specs.declared.halt.Halt.{Halt}
use Rattle.zstate.specs.State.{Frame, IsState, State, Setting, keeping_flags, most_limit}
use Rattle.zstate.specs.Step.{fetch, place_of}

-- ---- what is saved

-- a save lists the bottom of a stack first
abbrev pub kept_frame : Frame → SavedFrame
kept_frame f = record { return_place = f.return_place; result = f.result; supplied = f.supplied; locals = f.locals; stack = reverse f.stack }

-- dynamic memory, the frames with the oldest first, and the address of the branch data of the `save` at the place, which is one byte (own)
abbrev pub saved_of : LoadedStory → State → Saved
saved_of story s = record { memory = take (static_base story) s.memory; place = place_of (s.place +ℤ pos 1); frames = map kept_frame (reverse (s.frame ∷ s.callers)) }

-- ---- how play goes on

abbrev pub taken_frame : SavedFrame → Frame
taken_frame f = record { return_place = f.return_place; result = f.result; supplied = f.supplied; locals = f.locals; stack = reverse f.stack }

-- the frames, with the newest first
abbrev pub with_frames : List Frame → State → State
with_frames [] s = s
with_frames (f ∷ callers) s = record s { frame = f; callers = callers }

-- the loaded memory, over which lies that of the save from behind the header on, with the save's Flags 2 (Z 11.1)
abbrev pub taken_memory : LoadedStory → List ℕ → List ℕ
taken_memory story saved = slice_set (slice_set (with_bytes 64 (drop 64 saved) story.memory) 16 (byte_at saved 16)) 17 (byte_at saved 17)

-- where the `save` stands from which play goes on
abbrev pub save_place : Saved → ℤ
save_place saved = pos saved.place -ℤ pos 1

abbrev pub is_save : Operation → Bool
is_save Save = true
is_save _ = false

-- a `save` is what is fetched
abbrev pub saves : Result Instruction Halt → Bool
saves (Ok i) = is_save (operation_of i.opcode)
saves (Err h) = false

-- the state at the `save`, which was kept. Of the state before, the two low bits of Flags 2 stay and where random numbers come from (own)
abbrev pub resumed : LoadedStory → Saved → State → State
resumed story saved s = with_frames (map taken_frame (reverse saved.frames)) (record s {
  memory = keeping_flags s.memory (taken_memory story saved.memory);
  place = save_place saved;
  prompted = false;
  waiting = Some (events.Saved true);
})

-- a `save` stands there and may be played, in memory as it then is, and there are no more frames than there may be
unfoldable pub going_on : Setting → Saved → State → Result State SaveError
going_on m saved s = do
  there ← need (saves (fetch m.scope (save_place saved) (resumed m.story saved s).memory)) errors.Place
  few ← need (nat_le (length saved.frames) (m.limit + 1)) errors.NotDescribed
  Ok (resumed m.story saved s)

-- the state in which play goes on from the bytes of a save, or the lowest refusal
abbrev pub restoring : Setting → List ℕ → State → Result State SaveError
restoring m bytes s = reading m.story bytes >>= λ saved. going_on m saved s

-- ---- laws

-- what a save leads to is a state
abbrev pub SavesKeep : Type 0
SavesKeep =
    (m : Setting) (saved : Saved) (s t : State) → IsSound m.story.memory → IsSaved m.story saved → AreBytes saved.memory → IsState m.limit m.story s → going_on m saved s ≡ Ok t → IsState m.limit m.story t

-- the header, but for Flags 2, and static memory are as loaded
abbrev pub IsOfStory : LoadedStory → List ℕ → Type 0
IsOfStory story memory = (p : ℕ) → ((p < 64) × (p ≢ 16) × (p ≢ 17)) ⊎ (static_base story ≤ p) → byte_at memory p ≡ byte_at story.memory p

-- what is saved of a state, in whose memory its place lies, can be written
abbrev pub StatesAreSaved : Type 0
StatesAreSaved = (limit : ℕ) (story : LoadedStory) (s : State) (p : ℕ) → IsSound story.memory → IsState limit story s → limit ≤ most_limit → s.place ≡ pos p → p < length s.memory → IsSaved story (saved_of story s)

-- Play goes on from what was saved at a `save` behind the header with the state that was saved; of the state in which it is asked for,
-- what stays has stayed.
abbrev pub SavesGoOn : Type 0
SavesGoOn =
    (m : Setting) (s now : State) (p : ℕ) → IsSound m.story.memory → IsState m.limit m.story s → IsOfStory m.story s.memory → length now.memory ≡ length s.memory → s.place ≡ pos p → 64 ≤ p
    → saves (fetch m.scope s.place s.memory) ≡ true → going_on m (saved_of m.story s) now ≡ Ok (record s { memory = keeping_flags now.memory s.memory; random = now.random; prompted = false; waiting = Some (events.Saved true) })
