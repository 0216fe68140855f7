-- Random numbers and lines of the player, computed.
use Rattle.std.proofs.Common.{◌≡◌, ℕ, true, false, List, [], ◌∷◌, ◌++◌, replicate, slice_set, Option, Some, None, Ok, Err, pos, negsuc, refl}
use Rattle.zstory.specs.LoadedStory.{LoadedStory}
use Rattle.zcode.specs.Operation.{operation_of}
use Rattle.zcode.specs.Reading.{instruction_at, head_at, variable_head, checked_head, operands_at, operand_at, store_if, branch_if, text_if}
use Rattle.zdict.specs.Lookup.{lookup}
use Rattle.zline.specs.Storing.{with_blocks, with_line}
use Rattle.zfault.specs.declared.event.Event.{Event}
use Rattle.zfault.specs.declared.event.Event.TheVariants as events
use Rattle.zfault.specs.declared.fault.Fault.TheVariants.{AbsentObject, ReadOutside, SmallBuffer, WriteOutside}
use Rattle.zfault.specs.declared.pause.Need.TheVariants as needs
use Rattle.zfault.specs.declared.pause.Pause.TheVariants as pauses
use Rattle.zfault.specs.declared.item.Item.TheVariants.{Status}
use Rattle.zstate.specs.declared.halt.Halt.TheVariants as halts
use Rattle.zstate.specs.declared.halt.Stop.TheVariants as stops
use Rattle.zstate.specs.declared.mode.RandomMode.{RandomMode}
use Rattle.zstate.specs.declared.mode.RandomMode.TheVariants.{Words, Counting}
use Rattle.zstate.specs.InTurn.{in_turn}
use Rattle.zstate.specs.State.{State, Setting, most_limit, scope_all, opening, at_place, give, with_stack, put, read_operand, read_variable}
use Rattle.zstate.specs.Step.{fetch, effect_of, giving, random_of, buffered, are_writable, line_read, admits, pauses as must_pause, plan, changed, act, step}
use Rattle.zstate.specs.Run.{Given, awaited, run, until}

-- ---- random numbers

-- a story with nothing in it
bare : LoadedStory
bare = record { memory = replicate 64 0; objects = 0 }

by : RandomMode → Option Event → State
by mode waiting = record (opening bare) { random = mode; waiting = waiting }

word : ℕ → State
word w = by Words (Some (events.Random w))

-- 6 with the words 0, 5, 6 and 65,535, and the greatest range there is
drawn : (random_of 6 (word 0) ≡ record (giving 1) { uses = Some needs.Random }) × (random_of 6 (word 5) ≡ record (giving 6) { uses = Some needs.Random }) × (random_of 6 (word 6) ≡ record (giving 1) { uses = Some needs.Random }) × (random_of 6 (word 65535) ≡ record (giving 4) { uses = Some needs.Random }) × (random_of 32767 (word 65535) ≡ record (giving 2) { uses = Some needs.Random })
unfolding by word
drawn = (refl, refl, refl, refl, refl)

-- no other event is a word
wanted : (random_of 6 (by Words None) ≡ record (giving 0) { needs = Some needs.Random }) × (random_of 1 (by Words (Some (events.Line []))) ≡ record (giving 0) { needs = Some needs.Random })
unfolding by
wanted = (refl, refl)

-- -3 counts to 3, -32,768 to 32,768, and 0 takes words again, whatever waits
switched : (random_of 65533 (word 7) ≡ record (giving 0) { random = Some (Counting 3 1) }) × (random_of 32768 (by Words None) ≡ record (giving 0) { random = Some (Counting 32768 1) }) × (random_of 65535 (by (Counting 3 2) None) ≡ record (giving 0) { random = Some (Counting 1 1) }) × (random_of 0 (by (Counting 3 2) (Some (events.Random 7))) ≡ record (giving 0) { random = Some Words })
unfolding by word
switched = (refl, refl, refl, refl)

-- the count of 3 gives 2, 3, 1 and 2 in a range of 3, and leaves the word that waits
counted : (random_of 3 (by (Counting 3 1) None) ≡ record (giving 2) { random = Some (Counting 3 2) }) × (random_of 3 (by (Counting 3 2) None) ≡ record (giving 3) { random = Some (Counting 3 3) }) × (random_of 3 (by (Counting 3 3) (Some (events.Random 7))) ≡ record (giving 1) { random = Some (Counting 3 1) }) × (random_of 9 (by (Counting 1 1) None) ≡ record (giving 2) { random = Some (Counting 1 1) })
unfolding by
counted = (refl, refl, refl, refl)

-- ---- a story that asks and draws: its first three globals at 64, a text buffer of 4 at 70, a parse buffer of one word at 75, a
-- dictionary of no word and one separator, a comma, at the static base, 81

-- at 86 `sread` with the text buffer that the stack names, at 90 `random` 6 for the stack
code : List ℕ
code = 0xE4 ∷ 0x9F ∷ 0x00 ∷ 0x4B ∷ 0xE7 ∷ 0x7F ∷ 0x06 ∷ 0x00 ∷ []

-- with what the two buffers hold behind their sizes
asking : List ℕ → List ℕ → List ℕ
asking text parse = replicate 9 0 ++ 81 ∷ 0 ∷ 0 ∷ 0 ∷ 64 ∷ 0 ∷ 81 ∷ replicate 48 0 ++ 0 ∷ 0 ∷ 0x01 ∷ 0x04 ∷ 0xFF ∷ 0xFE ∷ 4 ∷ text ++ 1 ∷ parse ++ 1 ∷ 0x2C ∷ 4 ∷ 0 ∷ 0 ∷ code

fresh : List ℕ
fresh = asking (9 ∷ 9 ∷ 9 ∷ 9 ∷ []) (9 ∷ 9 ∷ 9 ∷ 9 ∷ 9 ∷ [])

story : LoadedStory
story = record { memory = fresh; objects = 0 }

setting : Setting
setting = record { story = story; scope = scope_all story; limit = most_limit }

asks : State
asks = at_place (pos 86) (with_stack (70 ∷ 8 ∷ []) (opening story))

prompted : State
prompted = record asks { prompted = true }

-- "I,q!!"
line : Event
line = events.Line (0x49 ∷ 0x2C ∷ 0x71 ∷ 0x21 ∷ 0x21 ∷ [])

-- the prompt leaves the stack as it is; an event that waits is let alone
prompts : (step setting asks ≡ Ok (record { state = prompted; items = Status (record { name = []; first = pos 260; second = negsuc 1; time = false }) ∷ [] })) × (step setting (give (events.Random 7) asks) ≡ Ok (record { state = give (events.Random 7) prompted; items = Status (record { name = []; first = pos 260; second = negsuc 1; time = false }) ∷ [] }))
unfolding step plan act changed fetch effect_of operation_of buffered are_writable admits must_pause in_turn read_operand read_variable instruction_at head_at variable_head checked_head operands_at operand_at store_if branch_if text_if setting story fresh asking code asks prompted
prompts = (refl, refl)

-- then it waits for a line, and for nothing else
waits : (step setting prompted ≡ Err (halts.Need needs.Line)) × (step setting (give (events.Random 7) prompted) ≡ Err (halts.Need needs.Line)) × (awaited setting prompted ≡ Some needs.Line) × (awaited setting (give line prompted) ≡ None) × (awaited setting asks ≡ None)
unfolding step plan act changed fetch effect_of operation_of buffered are_writable admits must_pause in_turn read_operand read_variable instruction_at head_at variable_head checked_head operands_at operand_at store_if branch_if text_if setting story fresh asking code asks prompted line
waits = (refl, refl, refl, refl, refl)

-- three of its characters are stored, and one of three words; what the stack named is read then
heard : step setting (give line prompted) ≡ Ok (record { state = record (at_place (pos 90) (with_stack (8 ∷ []) (opening story))) { memory = asking (0x69 ∷ 0x2C ∷ 0x71 ∷ 0 ∷ []) (1 ∷ 0 ∷ 0 ∷ 1 ∷ 1 ∷ []) }; items = [] })
unfolding step plan act changed fetch effect_of operation_of buffered are_writable with_line with_blocks lookup admits must_pause in_turn read_operand read_variable instruction_at head_at variable_head checked_head operands_at operand_at store_if branch_if text_if setting story fresh asking code asks prompted line
heard = refl

-- what is shown, and all that a line isn't stored in, are as memory is now: a global was given 261
shown_now : step setting (record asks { memory = slice_set fresh 67 5 }) ≡ Ok (record { state = record prompted { memory = slice_set fresh 67 5 }; items = Status (record { name = []; first = pos 261; second = negsuc 1; time = false }) ∷ [] })
unfolding step plan act changed fetch effect_of operation_of buffered are_writable admits must_pause in_turn read_operand read_variable instruction_at head_at variable_head checked_head operands_at operand_at store_if branch_if text_if setting story fresh asking code asks prompted
shown_now = refl

kept_now : step setting (give line (record prompted { memory = slice_set fresh 67 5 })) ≡ Ok (record { state = record (at_place (pos 90) (with_stack (8 ∷ []) (opening story))) { memory = slice_set (asking (0x69 ∷ 0x2C ∷ 0x71 ∷ 0 ∷ []) (1 ∷ 0 ∷ 0 ∷ 1 ∷ 1 ∷ [])) 67 5 }; items = [] })
unfolding step plan act changed fetch effect_of operation_of buffered are_writable with_line with_blocks lookup admits must_pause in_turn read_operand read_variable instruction_at head_at variable_head checked_head operands_at operand_at store_if branch_if text_if setting story fresh asking code asks prompted line
kept_now = refl

-- a run that stands at a line goes on with a line that is handed in, and with nothing else
handed_in :
    (run setting (Given line ∷ []) 0 prompted ≡ record { stop = stops.Paused pauses.Budget; state = give line prompted; items = [] })
    × (run setting (Given (events.Random 7) ∷ []) 0 prompted ≡ record { stop = stops.Paused pauses.NeedLine; state = prompted; items = [] })
unfolding run until line
handed_in = (rw (waits.0, heard) refl, rw (waits.0) refl)

-- a word is used up by the step that draws with it, and the mark of a prompt stays
draws : (step setting (at_place (pos 90) (opening story)) ≡ Err (halts.Need needs.Random)) × (step setting (give (events.Random 65535) (at_place (pos 90) prompted)) ≡ Ok (record { state = record (at_place (pos 94) (with_stack (4 ∷ 70 ∷ 8 ∷ []) prompted)) { waiting = None }; items = [] }))
unfolding step plan act changed fetch effect_of operation_of admits must_pause in_turn read_operand instruction_at head_at variable_head checked_head operands_at operand_at store_if branch_if text_if put setting story fresh asking code asks prompted
draws = (refl, refl)

-- a step that counts goes on with the count, and leaves what waits and the mark of a prompt
counting_on : step setting (record (give (events.Random 7) (at_place (pos 90) prompted)) { random = Counting 3 3 }) ≡ Ok (record { state = record (give (events.Random 7) (at_place (pos 94) (with_stack (4 ∷ 70 ∷ 8 ∷ []) prompted))) { random = Counting 3 1 }; items = [] })
unfolding step plan act changed fetch effect_of operation_of admits must_pause in_turn read_operand instruction_at head_at variable_head checked_head operands_at operand_at store_if branch_if text_if put setting story fresh asking code asks prompted
counting_on = refl

-- ---- what is asked of buffers: both lie in memory of 94 bytes, then their sizes, then all bytes that they take

sized : (buffered story 93 75 fresh ≡ Err (halts.Fault SmallBuffer)) × (buffered story 94 75 fresh ≡ Err (halts.Fault ReadOutside)) × (buffered story 70 94 fresh ≡ Err (halts.Fault ReadOutside))
unfolding buffered are_writable story fresh asking code
sized = (refl, refl, refl)

large : (buffered story 70 75 (slice_set fresh 70 2) ≡ Ok tt) × (buffered story 70 75 (slice_set fresh 70 1) ≡ Err (halts.Fault SmallBuffer)) × (buffered story 70 75 (slice_set fresh 75 0) ≡ Err (halts.Fault SmallBuffer))
unfolding buffered are_writable story fresh asking code
large = (refl, refl, refl)

-- the sizes are those that memory has now
small_now : line_read story 70 75 (record (opening story) { memory = slice_set fresh 70 1 }) ≡ Err (halts.Fault SmallBuffer)
unfolding buffered are_writable story fresh asking code
small_now = refl

-- sizes that can't be read come before those that are too small, these before bytes that may not be written, and the status line before all
in_order : (buffered story 94 75 (slice_set fresh 75 0) ≡ Err (halts.Fault ReadOutside)) × (buffered story 94 75 (slice_set fresh 75 2) ≡ Err (halts.Fault ReadOutside)) × (buffered story 70 75 (slice_set (slice_set fresh 70 1) 75 2) ≡ Err (halts.Fault SmallBuffer)) × (buffered story 70 75 (slice_set (slice_set fresh 70 11) 75 0) ≡ Err (halts.Fault SmallBuffer)) × (line_read story 94 75 (record (opening story) { memory = slice_set fresh 65 9 }) ≡ Err (halts.Fault AbsentObject))
unfolding buffered are_writable story fresh asking code
in_order = (refl, refl, refl, refl, refl)

-- the buffers end below the static base, and none begins in the header
free : (buffered story 70 75 (slice_set fresh 70 10) ≡ Ok tt) × (buffered story 70 75 (slice_set fresh 70 11) ≡ Err (halts.Fault WriteOutside)) × (buffered story 70 75 (slice_set fresh 75 2) ≡ Err (halts.Fault WriteOutside)) × (buffered story 62 75 (slice_set fresh 62 2) ≡ Err (halts.Fault WriteOutside)) × (buffered story 63 75 (slice_set fresh 63 2) ≡ Ok tt) × (buffered story 70 63 (slice_set fresh 63 1) ≡ Ok tt) × (buffered story 70 76 (slice_set fresh 76 1) ≡ Err (halts.Fault WriteOutside))
unfolding buffered are_writable story fresh asking code
free = (refl, refl, refl, refl, refl, refl, refl)
