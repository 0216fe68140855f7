-- Saves, restores and restarts, computed.
use Rattle.std.proofs.Common.{◌≡◌, ℕ, true, false, List, [], ◌∷◌, ◌++◌, replicate, take, Some, None, Ok, Err, pos, refl}
use Rattle.std.specs.Prelude.{codes}
use Rattle.zstory.specs.LoadedStory.{LoadedStory}
use Rattle.zcode.specs.Operation.{operation_of}
use Rattle.zcode.specs.Reading.{instruction_at, head_at, short_head, checked_head, operands_at, store_if, branch_if, branch_at, text_if}
use Rattle.zfault.specs.declared.event.Event.TheVariants as events
use Rattle.zfault.specs.declared.pause.Need.TheVariants as needs
use Rattle.zquetzal.specs.declared.error.SaveError.TheVariants as errors
use Rattle.zquetzal.specs.Reading.{body_of, sized_chunk, chunk_at, chunks_within, chosen, framed, frame_at, frames_within, frames_of, reading}
use Rattle.zquetzal.specs.Saved.{Saved}
use Rattle.zstate.specs.declared.halt.Halt.TheVariants as halts
use Rattle.zstate.specs.declared.mode.RandomMode.TheVariants.{Counting}
use Rattle.zstate.specs.InTurn.{in_turn}
use Rattle.zstate.specs.State.{Frame, State, Setting, most_limit, scope_all, first_frame, opening, at_place, give}
use Rattle.zstate.specs.Step.{fetch, effect_of, admits, pauses as must_pause, plan, changed, act, step}
use Rattle.zstate.specs.Run.{Given, Restored, awaited, handed}
use Rattle.zstate.specs.Saves.{saved_of, taken_memory, resumed, going_on}

-- ---- a story of 80 bytes that opens at 72; its static base is 70

-- at 72 `save`, which goes to 75 where it succeeds; at 75 `restore`, which goes to 78 where it fails; at 78 `restart`
code : List ℕ
code = 0xB5 ∷ 0xC3 ∷ 0xBA ∷ 0xB6 ∷ 0x43 ∷ 0xBA ∷ 0xB7 ∷ 0xBA ∷ []

-- with the second byte of its header, with Flags 2, and with its six bytes of dynamic memory behind the header
bytes : ℕ → ℕ → ℕ → List ℕ → List ℕ
bytes flags high low dynamic = 3 ∷ flags ∷ 0 ∷ 1 ∷ 0 ∷ 0 ∷ 0 ∷ 72 ∷ replicate 6 0 ++ 0 ∷ 70 ∷ high ∷ low ∷ replicate 46 0 ++ dynamic ++ 8 ∷ 9 ∷ code

story : LoadedStory
story = record { memory = bytes 0x20 0x12 0x35 (1 ∷ 2 ∷ 3 ∷ 4 ∷ 5 ∷ 6 ∷ []); objects = 0 }

setting : Setting
setting = record { story = story; scope = scope_all story; limit = most_limit }

-- a routine with two locals and two arguments was called from the main code
called : Frame
called = record { return_place = 0x150; result = 16; supplied = 2; locals = 1 ∷ 2 ∷ []; stack = 7 ∷ 8 ∷ [] }

main : Frame
main = record first_frame { stack = 9 ∷ 10 ∷ [] }

-- with no byte as it was loaded that may differ
played : State
played = record { memory = bytes 0x20 0xA0 0x4E (11 ∷ 12 ∷ 13 ∷ 14 ∷ 15 ∷ 16 ∷ []); frame = called; callers = main ∷ []; place = pos 72; random = Counting 3 2; prompted = false; waiting = None }

-- ---- what is saved: dynamic memory, the byte behind the opcode, and the frames and their words with the oldest first

kept : Saved
kept = record {
  memory = take 70 (bytes 0x20 0xA0 0x4E (11 ∷ 12 ∷ 13 ∷ 14 ∷ 15 ∷ 16 ∷ []));
  place = 73;
  frames = record { return_place = 0; result = 0; supplied = 0; locals = []; stack = 10 ∷ 9 ∷ [] } ∷ record { return_place = 0x150; result = 16; supplied = 2; locals = 1 ∷ 2 ∷ []; stack = 8 ∷ 7 ∷ [] } ∷ [];
}

saves_state : saved_of story played ≡ kept
unfolding story bytes played called main kept
saves_state = refl

-- ---- how play goes on from it

-- a header is the story's, but for Flags 2; dynamic memory behind it is the save's, and static memory the story's
takes_memory : taken_memory story (take 70 (bytes 0xFF 0xA0 0x4E (11 ∷ 12 ∷ 13 ∷ 14 ∷ 15 ∷ 16 ∷ []))) ≡ bytes 0x20 0xA0 0x4E (11 ∷ 12 ∷ 13 ∷ 14 ∷ 15 ∷ 16 ∷ [])
unfolding story bytes code
takes_memory = refl

-- a play that asks for a save, of which both low bits of Flags 2 are set
asking : State
asking = record (opening story) { memory = bytes 0x20 0x00 0x03 (0 ∷ 0 ∷ 0 ∷ 0 ∷ 0 ∷ 0 ∷ []); place = pos 75; random = Counting 5 4; prompted = true }

-- those bits and where random numbers come from are of the play that goes on, all else of the save
restored : State
restored = record { memory = bytes 0x20 0xA0 0x4F (11 ∷ 12 ∷ 13 ∷ 14 ∷ 15 ∷ 16 ∷ []); frame = called; callers = main ∷ []; place = pos 72; random = Counting 5 4; prompted = false; waiting = Some (events.Saved true) }

resumes : resumed story kept asking ≡ restored
unfolding story bytes code called main kept asking restored
resumes = refl

-- at a `save` alone, and with no more callers than there may be
goes_on : (going_on setting kept asking ≡ Ok restored) × (going_on (record setting { limit = 1 }) kept asking ≡ Ok restored) × (going_on (record setting { limit = 0 }) kept asking ≡ Err errors.NotDescribed)
unfolding going_on fetch in_turn operation_of instruction_at head_at short_head checked_head operands_at store_if branch_if branch_at text_if story bytes code setting called main kept asking restored
goes_on = (refl, refl, refl)

elsewhere : (going_on setting (record kept { place = 76 }) asking ≡ Err errors.Place) × (going_on setting (record kept { place = 75 }) asking ≡ Err errors.Place) × (going_on setting (record kept { place = 0 }) asking ≡ Err errors.Place)
unfolding going_on fetch in_turn operation_of instruction_at head_at short_head checked_head operands_at store_if branch_if branch_at text_if story bytes code setting called main kept asking
elsewhere = (refl, refl, refl)

-- its bytes: the header of a save, memory, and the two frames
file : List ℕ
file =
    codes "FORM" ++ (0 ∷ 0 ∷ 0 ∷ 140 ∷ []) ++ codes "IFZS"
    ++ codes "IFhd" ++ (0 ∷ 0 ∷ 0 ∷ 13 ∷ 0 ∷ 1 ∷ 0 ∷ 0 ∷ 0 ∷ 0 ∷ 0 ∷ 0 ∷ 0x05 ∷ 0x7C ∷ 0 ∷ 0 ∷ 73 ∷ 0 ∷ [])
    ++ codes "UMem" ++ (0 ∷ 0 ∷ 0 ∷ 70 ∷ []) ++ take 70 (bytes 0x20 0xA0 0x4E (11 ∷ 12 ∷ 13 ∷ 14 ∷ 15 ∷ 16 ∷ []))
    ++ codes "Stks" ++ (0 ∷ 0 ∷ 0 ∷ 28 ∷ 0 ∷ 0 ∷ 0 ∷ 0 ∷ 0 ∷ 0 ∷ 0 ∷ 2 ∷ 0 ∷ 10 ∷ 0 ∷ 9 ∷ [])
    ++ 0 ∷ 0x01 ∷ 0x50 ∷ 2 ∷ 16 ∷ 3 ∷ 0 ∷ 2 ∷ 0 ∷ 1 ∷ 0 ∷ 2 ∷ 0 ∷ 8 ∷ 0 ∷ 7 ∷ []

-- a save is handed in where one is asked for, if it is one, and any event where its kind is
hands_in : (handed setting (halts.Need needs.Restore) (Restored file) asking ≡ Some restored) × (handed setting (halts.Need needs.Saved) (Restored file) asking ≡ None) × (handed setting (halts.Need needs.Restore) (Restored []) asking ≡ None) × (handed setting (halts.Need needs.Restore) (Given events.NotRestored) asking ≡ Some (give events.NotRestored asking)) × (handed setting (halts.Need needs.Restore) (Given (events.Saved true)) asking ≡ None)
unfolding reading body_of sized_chunk chunk_at chunks_within chosen framed frame_at frames_within frames_of going_on fetch in_turn operation_of instruction_at head_at short_head checked_head operands_at store_if branch_if branch_at text_if story bytes code setting called main file asking restored
hands_in = (refl, refl, refl, refl, refl)

-- ---- the steps

-- `save` waits until it is told whether its save was kept, and takes its branch where it was
save_steps : (step setting played ≡ Err (halts.Need needs.Saved)) × (awaited setting played ≡ Some needs.Saved) × (step setting (give (events.Saved true) played) ≡ Ok (record { state = at_place (pos 75) played; items = [] })) × (step setting (give (events.Saved false) played) ≡ Ok (record { state = at_place (pos 74) played; items = [] })) × (step setting (give events.NotRestored played) ≡ Err (halts.Need needs.Saved))
unfolding step plan act changed effect_of admits must_pause fetch in_turn operation_of instruction_at head_at short_head checked_head operands_at store_if branch_if branch_at text_if story bytes code setting called main played
save_steps = (refl, refl, refl, refl, refl)

-- `restore` waits for a save, and branches as one that failed where there is none
restore_steps : (step setting asking ≡ Err (halts.Need needs.Restore)) × (awaited setting asking ≡ Some needs.Restore) × (step setting (give events.NotRestored asking) ≡ Ok (record { state = at_place (pos 78) asking; items = [] })) × (step setting (give (events.Saved true) asking) ≡ Err (halts.Need needs.Restore))
unfolding step plan act changed effect_of admits must_pause fetch in_turn operation_of instruction_at head_at short_head checked_head operands_at store_if branch_if branch_at text_if story bytes code setting asking
restore_steps = (refl, refl, refl, refl)

-- the play that goes on from a save goes to where its `save` leads
goes_to : step setting restored ≡ Ok (record { state = record restored { place = pos 75; waiting = None }; items = [] })
unfolding step plan act changed effect_of admits must_pause fetch in_turn operation_of instruction_at head_at short_head checked_head operands_at store_if branch_if branch_at text_if story bytes code setting called main restored
goes_to = refl

-- a play at `restart` that was prompted, and for which something waits
left : State
left = record played { place = pos 78; prompted = true; waiting = Some (events.Random 7) }

-- `restart` loads memory anew but for both low bits of Flags 2, and leaves where random numbers come from; the mark and what waits are gone
restarts : step setting left ≡ Ok (record { state = record { memory = bytes 0x20 0x12 0x36 (1 ∷ 2 ∷ 3 ∷ 4 ∷ 5 ∷ 6 ∷ []); frame = first_frame; callers = []; place = pos 72; random = Counting 3 2; prompted = false; waiting = None }; items = [] })
unfolding step plan act changed effect_of admits must_pause fetch in_turn operation_of instruction_at head_at short_head checked_head operands_at store_if branch_if branch_at text_if story bytes code setting called main played left
restarts = refl
