-- Values of the definitions, computed.
use Rattle.std.proofs.Common.{◌≡◌, ℕ, zero, suc, ◌+◌, ◌-◌, ◌≤◌, Bool, true, false, List, [], ◌∷◌, ◌++◌, length, replicate, map, Some, None, Result, Ok, Err, pos, negsuc, refl, arith}
use Rattle.std.specs.Prelude.{nat_le, slice_set, if◌then◌else◌, ℤ}
use Rattle.std.proofs.lemmas.List.{length-replicate}
use Rattle.std.specs.Fmt.{digits}
use Rattle.zstory.specs.Bytes.{AreBytes}
use Rattle.zstory.specs.LoadedStory.{LoadedStory}
use Rattle.zstory.proofs.Computed.{bytes_tested}
use Rattle.zcode.specs.declared.error.DecodeError.TheVariants.{Truncated}
use Rattle.zcode.specs.declared.instr.Operand.TheVariants.{Constant, Variable}
use Rattle.zcode.specs.declared.opcode.Opcode.TheVariants.{NewLine, Nop, Jz, IncChk, Pull}
use Rattle.zcode.specs.declared.instr.Destination.TheVariants.{Relative}
use Rattle.zcode.specs.declared.operation.Operation.TheVariants as operations
use Rattle.zcode.specs.Operation.{operation_of, inputs}
use Rattle.zword.specs.declared.unary.UnaryOp.TheVariants as unary
use Rattle.zword.specs.declared.binary.BinaryOp.TheVariants as binary
use Rattle.zword.specs.declared.question.Question.TheVariants as questions
use Rattle.zword.specs.declared.count.CountOp.TheVariants as counts
use Rattle.zcode.specs.Instruction.{Instruction}
use Rattle.zcode.specs.Reading.{instruction_at, head_at, short_head, checked_head, operands_at, store_if, branch_if, text_if}
use Rattle.ztext.specs.declared.error.TextError.TheVariants.{Outside, NestedAbbreviation}
use Rattle.ztext.specs.Alphabets.{small_letters}
use Rattle.ztext.specs.Output.{output_at, output_of_characters}
use Rattle.zfault.specs.declared.fault.Fault.TheVariants.{UnlistedInstruction, IllegalOpcode, UnlistedCall, StackUnderflow, AbsentLocal, AbsentObject, AbsentAttribute, TextOutside, ReturnFromMain, ZeroDivisor, BadVariable}
use Rattle.zfault.specs.declared.pause.Need.TheVariants as needs
use Rattle.zfault.specs.declared.pause.Pause.TheVariants as pauses
use Rattle.zfault.specs.declared.event.Event.TheVariants as events
use Rattle.zfault.specs.declared.item.Item.TheVariants.{Status, Text}
use Rattle.zfault.specs.declared.item.Status.{Status as StatusLine}
use Rattle.zword.specs.declared.addressing.Addressing.TheVariants as addressings
use Rattle.zstate.specs.declared.halt.Halt.TheVariants as halts
use Rattle.zstate.specs.declared.halt.Stop.TheVariants as stops
use Rattle.zstate.specs.declared.mode.RandomMode.TheVariants.{Words, Counting}
use Rattle.zstate.specs.InTurn.{in_turn}
use Rattle.zstate.specs.State.{AreWords, Frame, State, Setting, has_head, most_limit, scope_all, scope_only, first_frame, opening, IsFrame, IsFirst, AreFrames, IsCount, IsState, with_stack, with_locals, write_word, exists, has_room, put, put_named, put_in_place, read_in_place, popped, at_place, give, global, pop, found, read_named, read_variable, read_operand, read_operands}
use Rattle.zstate.specs.Step.{Called, Move, on, back, into, has_caller, is_taken, is_roomy, arguments, tells_time, words_from, laid_over, calling, returning, proceeds, giving, rewriting, changed, assigning, testing, printing, quitting, showing, following, decoded, fetch, printed, print_at, effect_of, way, course, admits, pauses, settle, plan, advance, act, items_of, step}
use Rattle.zstate.specs.Run.{stop_of, until, is_answered, need_in, awaited, Given, run, Ending, Ends, Goes, Makes, Stands, IsLonger, IsDeeper}
use Rattle.zstate.proofs.Words.{no_words, words_pushed}
use Rattle.zstate.specs.Gives.{Gives, IsNear}
use Rattle.zstate.specs.declared.head.Head.{Head}
use Rattle.zobj.specs.Entries.{HasTable}
use Rattle.zobj.specs.Moves.{row}
use Rattle.zobj.specs.declared.tree.Link.TheVariants.{Parent, Sibling, Child}
use Rattle.zstate.specs.Packed.{AreBelow, ArePacked, chain_of, frames_of}

-- ---- a story: its first instruction is at 70, its globals begin at 64

-- `new_line`, `nop`, `print` of "hello", `quit`, and a byte that is no opcode
code : List ℕ
code = 0xBB ∷ 0xB4 ∷ 0xB2 ∷ 0x35 ∷ 0x51 ∷ 0xC6 ∷ 0x85 ∷ 0xBA ∷ 0xBE ∷ []

memory : List ℕ
memory = replicate 7 0 ++ 70 ∷ replicate 5 0 ++ 64 ∷ replicate 50 0 ++ 0x01 ∷ 0x02 ∷ 0x03 ∷ 0x04 ∷ 0xFF ∷ 0xFE ∷ code

story : LoadedStory
story = record { memory = memory; objects = 0 }

-- with a table of two objects behind it, of which the second is in the first and has attribute 9
tabled : LoadedStory
tabled = record { memory = slice_set memory 11 79 ++ replicate 62 0 ++ 0 ∷ 0 ∷ 0 ∷ 0 ∷ 0 ∷ 0 ∷ 2 ∷ 0 ∷ 0 ∷ 0 ∷ 0x40 ∷ 0 ∷ 0 ∷ 1 ∷ 0 ∷ 0 ∷ 0 ∷ 0 ∷ []; objects = 2 }

setting : Setting
setting = record { story = story; scope = scope_all story; limit = most_limit }

in_tabled : Setting
in_tabled = record { story = tabled; scope = scope_all tabled; limit = most_limit }

-- two locals, and two words on the stack, of which 5 is the topmost
frame : Frame
frame = record { return_place = 0; result = 0; supplied = 0; locals = 7 ∷ 8 ∷ []; stack = 5 ∷ 6 ∷ [] }

state : State
state = record (opening story) { frame = frame }

at : ℕ → State
at p = at_place (pos p) (opening story)

-- ---- what a state is

opens : (opening story ≡ record { memory = memory; frame = first_frame; callers = []; place = pos 70; random = Words; prompted = false; waiting = None })
unfolding story memory code
opens = refl

-- at most 15 locals, and their words within memory
heads : (has_head (1 ∷ 0 ∷ 0 ∷ []) 0 ≡ true) × (has_head (2 ∷ 0 ∷ 0 ∷ []) 0 ≡ false) × (has_head (0 ∷ []) 0 ≡ true) × (has_head (0 ∷ []) 1 ≡ false) × (has_head (15 ∷ replicate 30 0) 0 ≡ true) × (has_head (16 ∷ replicate 40 0) 0 ≡ false) × (has_head (1 ∷ 0 ∷ []) 0 ≡ false)
heads = (refl, refl, refl, refl, refl, refl, refl)

-- routines stand at even places
all : ((scope_all story).instructions 78 ≡ true) × ((scope_all story).instructions 79 ≡ false) × ((scope_all story).routines 64 ≡ true) × ((scope_all story).routines 65 ≡ false) × ((scope_all story).routines 68 ≡ false)
unfolding story memory code
all = (refl, refl, refl, refl, refl)

only : ((scope_only (record { records = []; routines = 66 ∷ [] })).instructions 70 ≡ false) × ((scope_only (record { records = []; routines = 66 ∷ [] })).routines 66 ≡ true) × ((scope_only (record { records = []; routines = 66 ∷ [] })).routines 64 ≡ false)
only = (refl, refl, refl)

first : IsFrame first_frame × IsFirst first_frame
first = (record { reached = omega arith; result = omega arith; supplied = omega arith; locals = omega arith; stack = omega arith; local_words = no_words; stack_words = no_words }, record { return_place = refl; result = refl; supplied = refl; locals = refl })

above : IsFrame frame
unfolding frame
above = record {
  reached = omega arith;
  result = omega arith;
  supplied = omega arith;
  locals = omega arith;
  stack = omega arith;
  local_words = words_pushed 7 (8 ∷ []) (omega arith) (words_pushed 8 [] (omega arith) no_words);
  stack_words = words_pushed 5 (6 ∷ []) (omega arith) (words_pushed 6 [] (omega arith) no_words);
}

no_frames : (IsFrame (record first_frame { locals = replicate 16 0 }) → ⊥) × (IsFrame (record first_frame { supplied = 4 }) → ⊥) × (IsFrame (record first_frame { return_place = 16777216 }) → ⊥) × (IsFirst frame → ⊥)
unfolding frame
no_frames = (λ f. omega (arith, f.locals), λ f. omega (arith, f.supplied), λ f. omega (arith, f.reached), λ f. absurd cc)

-- 256 is no variable, and 65,536 no word
too_great : (IsFrame (record first_frame { result = 256 }) → ⊥) × (IsFrame (record first_frame { locals = 0 ∷ 65536 ∷ [] }) → ⊥) × (IsFrame (record first_frame { stack = 65536 ∷ [] }) → ⊥)
too_great = (λ f. omega (arith, f.result), λ f. omega (arith, f.local_words 1), λ f. omega (arith, f.stack_words 0))

-- the oldest frame is the first, and those above it need not be
frames : AreFrames first_frame [] × AreFrames frame (first_frame ∷ []) × (AreFrames first_frame (frame ∷ []) → ⊥) × (AreFrames frame [] → ⊥)
frames = (first, (above, first), λ f. no_frames.3 f.1.1, λ f. no_frames.3 f.1)

story_bytes : AreBytes tabled.memory
unfolding tabled memory code
story_bytes = bytes_tested tabled.memory refl

story_table : HasTable tabled.memory tabled.objects
unfolding tabled memory code
story_table = record { few = omega arith; above = omega arith; within = omega arith }

is_state : IsState most_limit tabled (opening tabled)
is_state = record { memory = refl; bytes = story_bytes; objects = story_table; tables = refl; frames = first; few = omega arith; count = tt }

-- each bound of a frame is reached, and a word more on the stack is too many
full_frame : (stack locals : List ℕ) → length stack ≡ 65535 → length locals ≡ 15 → AreWords stack → AreWords locals → IsFrame (record { return_place = 16777215; result = 255; supplied = 3; locals = locals; stack = stack })
full_frame stack locals deep wide words more = record { reached = omega arith; result = omega arith; supplied = omega arith; locals = omega (arith, wide); stack = omega (arith, deep); local_words = more; stack_words = words }

too_deep : (stack : List ℕ) → length stack ≡ 65536 → IsFrame (record first_frame { stack = stack }) → ⊥
too_deep stack deep f = omega (arith, deep, f.stack)

-- 4,096 frames above the first
all_first : (n : ℕ) → AreFrames first_frame (replicate n first_frame)
all_first zero = first
all_first (suc n) = (first.0, all_first n)

many_frames : (n : ℕ) → n ≤ 4096 → IsState most_limit tabled (record (opening tabled) { callers = replicate n first_frame })
many_frames n few = record { memory = refl; bytes = story_bytes; objects = story_table; tables = refl; frames = all_first n; few = omega (arith, few, length-replicate n first_frame); count = tt }

too_many_frames : (s : State) → length s.callers ≡ 4097 → IsState most_limit story s → ⊥
too_many_frames s many is = omega (arith, many, is.few)

-- a count gives the numbers of its seed
is_count : IsCount (Counting 32768 32768) × (IsCount (Counting 3 4) → ⊥) × (IsCount (Counting 3 0) → ⊥) × (IsCount (Counting 32769 1) → ⊥)
is_count = ((omega arith, omega arith, omega arith), λ h. omega (arith, h.1), λ h. omega (arith, h.0), λ h. omega (arith, h.2))

-- memory is as long as the story, and neither shorter nor longer
shortened : IsState most_limit story (record (opening story) { memory = [] }) → ⊥
unfolding story memory code
shortened s = omega (arith, s.memory)

lengthened : IsState most_limit tabled (record (opening tabled) { memory = tabled.memory ++ 0 ∷ [] }) → ⊥
unfolding tabled memory code
lengthened s = omega (arith, s.memory)

-- and holds bytes
no_byte : IsState most_limit story (record (opening story) { memory = slice_set story.memory 64 256 }) → ⊥
unfolding story memory code
no_byte s = omega (arith, s.bytes 64)

-- and has the entry of each object
no_entry : IsState most_limit (record tabled { objects = 3 }) (opening tabled) → ⊥
unfolding tabled memory code
no_entry s = omega (arith, s.objects.within)

-- behind its header
no_table : IsState most_limit story (opening story) → ⊥
unfolding story memory code
no_table s = omega (arith, s.objects.above)

no_state : (IsState most_limit story (record (opening story) { callers = replicate 4097 first_frame }) → ⊥)
no_state s = omega (arith, s.few)

-- ---- accesses

taken : (popped 1 state ≡ with_stack (6 ∷ []) state) × ((popped 3 state).frame.stack ≡ []) × ((give (events.Random 3) state).waiting ≡ Some (events.Random 3)) × ((at_place (negsuc 1) state).place ≡ negsuc 1)
unfolding state frame
taken = (refl, refl, refl, refl)

pops : (pop (5 ∷ 6 ∷ []) state ≡ Ok (5, with_stack (6 ∷ []) state)) × (pop [] state ≡ Err (halts.Fault StackUnderflow)) × (found (Some 3) AbsentLocal ≡ Ok 3) × (found None AbsentLocal ≡ Err (halts.Fault AbsentLocal))
pops = (refl, refl, refl, refl)

globals : (global story 16 ≡ 64) × (global story 18 ≡ 68) × (global story 255 ≡ 542)
unfolding story memory code
globals = (refl, refl, refl)

-- locals 1 and 2 are there; variables 16 and 18 are the first and the third global
named : (read_named story 1 state ≡ Ok 7) × (read_named story 2 state ≡ Ok 8) × (read_named story 3 state ≡ Err (halts.Fault AbsentLocal)) × (read_named story 15 state ≡ Err (halts.Fault AbsentLocal)) × (read_named story 16 state ≡ Ok 0x102) × (read_named story 18 state ≡ Ok 0xFFFE)
unfolding read_named story memory code state frame
named = (refl, refl, refl, refl, refl, refl)

variables : (read_variable story 0 state ≡ Ok (5, popped 1 state)) × (read_variable story 0 (popped 2 state) ≡ Err (halts.Fault StackUnderflow)) × (read_variable story 1 state ≡ Ok (7, state)) × (read_variable story 17 state ≡ Ok (0x304, state))
unfolding read_variable read_named story memory code state frame
variables = (refl, refl, refl, refl)

one_operand : (read_operand story (Constant 0) state ≡ Ok (0, state)) × (read_operand story (Variable 0) state ≡ Ok (5, popped 1 state)) × (read_operand story (Variable 3) state ≡ Err (halts.Fault AbsentLocal))
unfolding read_operand read_variable read_named story memory code state frame
one_operand = (refl, refl, refl)

-- from left to right, and the first fault is the one
operands : (read_operands story (Variable 0 ∷ Constant 9 ∷ Variable 0 ∷ []) state ≡ Ok (5 ∷ 9 ∷ 6 ∷ [], popped 2 state)) × (read_operands story (Variable 0 ∷ Variable 0 ∷ Variable 0 ∷ Variable 3 ∷ []) state ≡ Err (halts.Fault StackUnderflow)) × (read_operands story (Variable 0 ∷ Variable 3 ∷ Variable 0 ∷ Variable 0 ∷ []) state ≡ Err (halts.Fault AbsentLocal)) × (read_operands story [] state ≡ Ok ([], state))
unfolding in_turn read_operand read_variable read_named story memory code state frame
operands = (refl, refl, refl, refl)

-- each takes what it asks for off what is left
spend : ℕ → ℕ → Result (ℕ × ℕ) Bool
spend asked left = if nat_le asked left then Ok (asked + 10, left - asked) else Err true

turns : (in_turn spend (2 ∷ 3 ∷ []) 6 ≡ Ok (12 ∷ 13 ∷ [], 1)) × (in_turn spend (2 ∷ 5 ∷ []) 6 ≡ Err true) × (in_turn spend [] 6 ≡ Ok ([], 6))
unfolding in_turn spend
turns = (refl, refl, refl)

-- ---- the tests of a step

-- an instruction that takes nothing
plain : ℕ → Instruction
plain size = record { opcode = NewLine; operands = []; store = None; branch = None; size = size }

decodings : (decoded (Ok (plain 1)) ≡ Ok (plain 1)) × (decoded (Err Truncated) ≡ Err (halts.Fault IllegalOpcode))
decodings = (refl, refl)

-- the place is judged before its bytes
fetches : (fetch (scope_all story) (negsuc 0) memory ≡ Err (halts.Fault UnlistedInstruction)) × (fetch (scope_all story) (pos 79) memory ≡ Err (halts.Fault UnlistedInstruction)) × (fetch (scope_all story) (pos 78) memory ≡ Err (halts.Fault IllegalOpcode)) × (fetch (scope_only (record { records = []; routines = [] })) (pos 78) memory ≡ Err (halts.Fault UnlistedInstruction))
unfolding fetch instruction_at head_at short_head story memory code
fetches = (refl, refl, refl, refl)

hello : List ℕ
hello = 0x68 ∷ 0x65 ∷ 0x6C ∷ 0x6C ∷ 0x6F ∷ []

prints : (printed (Ok (65 ∷ [])) ≡ Ok (printing (65 ∷ []))) × (printed (Err Outside) ≡ Err (halts.Fault TextOutside)) × (printed (Err NestedAbbreviation) ≡ Err (halts.Fault TextOutside))
prints = (refl, refl, refl)

texts : (print_at (pos 73) memory ≡ Ok (printing hello)) × (print_at (pos 78) memory ≡ Err (halts.Fault TextOutside)) × (print_at (negsuc 0) memory ≡ Err (halts.Fault TextOutside))
unfolding output_at output_of_characters small_letters memory code hello
texts = (refl, refl, refl)

effects : (effect_of setting operations.Print [] (at 72) ≡ Ok (printing hello)) × (effect_of setting operations.NewLine [] (at 72) ≡ Ok (printing (10 ∷ []))) × (effect_of setting operations.Nop [] (at 72) ≡ Ok proceeds) × (effect_of setting operations.Quit [] (at 72) ≡ Ok quitting)
unfolding effect_of output_at output_of_characters small_letters setting at story memory code hello
effects = (refl, refl, refl, refl)

-- words: 65,535 is -1
given_words : (effect_of setting (operations.Binary binary.Add) (32767 ∷ 2 ∷ []) state ≡ Ok (giving 32769)) × (effect_of setting (operations.Binary binary.Div) (65525 ∷ 2 ∷ []) state ≡ Ok (giving 65531)) × (effect_of setting (operations.Binary binary.Mod) (13 ∷ 65531 ∷ []) state ≡ Ok (giving 3)) × (effect_of setting (operations.Binary binary.Div) (7 ∷ 0 ∷ []) state ≡ Err (halts.Fault ZeroDivisor)) × (effect_of setting (operations.Unary unary.Not) (1 ∷ []) state ≡ Ok (giving 65534)) × (effect_of setting (operations.Unary unary.Keep) (9 ∷ []) state ≡ Ok (giving 9))
unfolding effect_of
given_words = (refl, refl, refl, refl, refl, refl)

-- the first of several against each of the others
questions_asked : (effect_of setting (operations.Compare questions.Equal) (4 ∷ 1 ∷ 2 ∷ 4 ∷ []) state ≡ Ok (testing true)) × (effect_of setting (operations.Compare questions.Equal) (4 ∷ 1 ∷ 2 ∷ 3 ∷ []) state ≡ Ok (testing false)) × (effect_of setting (operations.Compare questions.Less) (65535 ∷ 0 ∷ []) state ≡ Ok (testing true)) × (effect_of setting (operations.Compare questions.Greater) (65535 ∷ 0 ∷ []) state ≡ Ok (testing false)) × (effect_of setting (operations.Compare questions.Test) (7 ∷ 5 ∷ []) state ≡ Ok (testing true))
unfolding effect_of
questions_asked = (refl, refl, refl, refl, refl)

-- the second local is 8, and the top of the stack is 5, which stays
counted_variables : (effect_of setting (operations.Count counts.Up (Some questions.Greater)) (2 ∷ 8 ∷ []) state ≡ Ok (record (assigning 2 9) { tests = Some true })) × (effect_of setting (operations.Count counts.Up (Some questions.Greater)) (2 ∷ 9 ∷ []) state ≡ Ok (record (assigning 2 9) { tests = Some false })) × (effect_of setting (operations.Count counts.Down None) (0 ∷ []) state ≡ Ok (assigning 0 4)) × (effect_of setting (operations.Count counts.Down None) (3 ∷ []) state ≡ Err (halts.Fault AbsentLocal))
unfolding effect_of read_in_place read_named state frame
counted_variables = (refl, refl, refl, refl)

named_variables : (effect_of setting operations.Store (18 ∷ 4 ∷ []) state ≡ Ok (assigning 18 4)) × (effect_of setting operations.Load (0 ∷ []) state ≡ Ok (giving 5)) × (effect_of setting operations.Load (18 ∷ []) state ≡ Ok (giving 0xFFFE)) × (effect_of setting operations.Load (255 ∷ []) state ≡ Ok (giving 0)) × (effect_of setting operations.Load (256 ∷ []) state ≡ Err (halts.Fault BadVariable)) × (effect_of setting operations.Store (0 ∷ 4 ∷ []) (popped 2 state) ≡ Err (halts.Fault StackUnderflow))
unfolding effect_of read_in_place read_named setting story memory code state frame
named_variables = (refl, refl, refl, refl, refl, refl)

-- the story has no checksum in its header, and its bytes behind the header sum up to more
printed_and_moved : (effect_of setting operations.PrintChar (65 ∷ []) state ≡ Ok (printing (65 ∷ []))) × (effect_of setting operations.PrintChar (13 ∷ []) state ≡ Ok (printing (10 ∷ []))) × (effect_of setting operations.PrintChar (0 ∷ []) state ≡ Ok (printing [])) × (effect_of setting operations.PrintNumber (65535 ∷ []) state ≡ Ok (printing (45 ∷ 49 ∷ []))) × (effect_of setting operations.Jump (65535 ∷ []) state ≡ Ok (record proceeds { moves = on (negsuc 2) })) × (effect_of setting operations.Verify [] state ≡ Ok (testing false)) × (effect_of setting operations.Jump (9 ∷ []) state ≡ Ok (record proceeds { moves = on (pos 7) }))
unfolding digits effect_of setting story memory code
printed_and_moved = (refl, refl, refl, refl, refl, refl, refl)

-- where the header says that sum, 1,905, it is right
verified : effect_of (record setting { story = record story { memory = slice_set (slice_set memory 0x1C 0x07) 0x1D 0x71 } }) operations.Verify [] state ≡ Ok (testing true)
unfolding effect_of setting story memory code
verified = refl

-- the text at the byte 73, and at the byte 72, whose first word is its last; neither at 78 nor at 131,070 there is one
addressed : (effect_of setting (operations.PrintAt addressings.Byte) (73 ∷ []) state ≡ Ok (printing hello)) × (effect_of setting (operations.PrintAt addressings.Packed) (36 ∷ []) state ≡ Ok (printing (0x67 ∷ 0x6C ∷ 0x70 ∷ []))) × (effect_of setting (operations.PrintAt addressings.Byte) (78 ∷ []) state ≡ Err (halts.Fault TextOutside)) × (effect_of setting (operations.PrintAt addressings.Packed) (65535 ∷ []) state ≡ Err (halts.Fault TextOutside))
unfolding effect_of output_at output_of_characters small_letters setting story memory code state frame hello
addressed = (refl, refl, refl, refl)

-- ---- the status line

-- with the first global in the place of 258, another number in Flags 1, and another table for the first object
lines : ℕ → ℕ → ℕ → State
lines flags object table = record (opening tabled) { memory = slice_set (slice_set (slice_set (slice_set tabled.memory 1 flags) 64 0) 65 object) 149 table }

-- the second global is 772, the third -2 unless it is another
lined : List ℕ → ℕ → Bool → StatusLine
lined name below time = record { name = name; first = pos 772; second = negsuc below; time = time }

status_lines : (effect_of in_tabled operations.ShowStatus [] (lines 0 0 72) ≡ Ok (showing (lined [] 1 false))) × (effect_of in_tabled operations.ShowStatus [] (lines 2 1 72) ≡ Ok (showing (lined hello 1 true))) × (effect_of in_tabled operations.ShowStatus [] (lines 0xFD 1 72) ≡ Ok (showing (lined hello 1 false))) × (effect_of in_tabled operations.ShowStatus [] (lines 0 2 72) ≡ Ok (showing (lined [] 1 false)))
unfolding effect_of output_at output_of_characters small_letters in_tabled tabled memory code hello lines lined
status_lines = (refl, refl, refl, refl)

-- 3 and 258 are no objects; the name at 155 has no end
no_line : (effect_of in_tabled operations.ShowStatus [] (lines 0 3 72) ≡ Err (halts.Fault AbsentObject)) × (effect_of in_tabled operations.ShowStatus [] (opening tabled) ≡ Err (halts.Fault AbsentObject)) × (effect_of in_tabled operations.ShowStatus [] (lines 0 1 154) ≡ Err (halts.Fault TextOutside))
unfolding effect_of output_at output_of_characters small_letters in_tabled tabled memory code lines
no_line = (refl, refl, refl)

-- ---- calls

-- the routine at 64 has a local, that at 66 three
two : Called
two = record { place = 73; locals = 7 ∷ 0xFEBB ∷ 0xB4B2 ∷ []; supplied = 1 }

calls : (effect_of setting operations.Call (33 ∷ 7 ∷ []) state ≡ Ok (calling two)) × (effect_of setting operations.Call (32 ∷ 7 ∷ 8 ∷ 9 ∷ []) state ≡ Ok (calling (record { place = 67; locals = 7 ∷ []; supplied = 3 }))) × (effect_of setting operations.Call (32 ∷ []) state ≡ Ok (calling (record { place = 67; locals = 0x203 ∷ []; supplied = 0 })))
unfolding effect_of words_from laid_over setting two story memory code state frame
calls = (refl, refl, refl)

-- of all routines this one alone may be called
abbrev calling_one : Setting
calling_one = record setting { scope = scope_only (record { records = []; routines = 64 ∷ [] }) }

-- by the first value alone, and with three arguments at most
called_alone : (effect_of calling_one operations.Call (32 ∷ 7 ∷ []) state ≡ Ok (calling (record { place = 67; locals = 7 ∷ []; supplied = 1 }))) × (effect_of calling_one operations.Call (33 ∷ 32 ∷ []) state ≡ Err (halts.Fault UnlistedCall)) × (arguments {A = ℕ} (32 ∷ 7 ∷ 8 ∷ 9 ∷ 10 ∷ []) ≡ 7 ∷ 8 ∷ 9 ∷ []) × (arguments {A = ℕ} (32 ∷ []) ≡ [])
unfolding effect_of words_from laid_over setting story memory code state frame
called_alone = (refl, refl, refl, refl)

-- bit 1 of Flags 1, whatever the others are
timed : (tells_time (3 ∷ 0x06 ∷ []) ≡ true) × (tells_time (3 ∷ 0x02 ∷ []) ≡ true) × (tells_time (3 ∷ 0xFD ∷ []) ≡ false)
timed = (refl, refl, refl)

-- an object is in its parent, one that is in none in 0; 0 is no object, nor is 3
objects : (effect_of in_tabled operations.Inside (2 ∷ 1 ∷ []) (opening tabled) ≡ Ok (testing true)) × (effect_of in_tabled operations.Inside (1 ∷ 2 ∷ []) (opening tabled) ≡ Ok (testing false)) × (effect_of in_tabled operations.Inside (1 ∷ 0 ∷ []) (opening tabled) ≡ Ok (testing true)) × (effect_of in_tabled operations.Inside (0 ∷ 0 ∷ []) (opening tabled) ≡ Err (halts.Fault AbsentObject)) × (effect_of in_tabled operations.Inside (3 ∷ 0 ∷ []) (opening tabled) ≡ Err (halts.Fault AbsentObject))
unfolding effect_of in_tabled tabled memory code
objects = (refl, refl, refl, refl, refl)

-- the object is tested before the attribute
attributes : (effect_of in_tabled operations.TestAttribute (2 ∷ 9 ∷ []) (opening tabled) ≡ Ok (testing true)) × (effect_of in_tabled operations.TestAttribute (2 ∷ 8 ∷ []) (opening tabled) ≡ Ok (testing false)) × (effect_of in_tabled operations.TestAttribute (1 ∷ 31 ∷ []) (opening tabled) ≡ Ok (testing false)) × (effect_of in_tabled operations.TestAttribute (1 ∷ 32 ∷ []) (opening tabled) ≡ Err (halts.Fault AbsentAttribute)) × (effect_of in_tabled operations.TestAttribute (3 ∷ 32 ∷ []) (opening tabled) ≡ Err (halts.Fault AbsentObject))
unfolding effect_of in_tabled tabled memory code
attributes = (refl, refl, refl, refl, refl)

-- a link is given, and it is asked whether it leads to an object
links : (effect_of in_tabled (operations.Follow Child) (1 ∷ []) (opening tabled) ≡ Ok (record proceeds { gives = Some 2; tests = Some true })) × (effect_of in_tabled (operations.Follow Parent) (2 ∷ []) (opening tabled) ≡ Ok (following 1)) × (effect_of in_tabled (operations.Follow Sibling) (2 ∷ []) (opening tabled) ≡ Ok (record proceeds { gives = Some 0; tests = Some false })) × (effect_of in_tabled (operations.Follow Parent) (0 ∷ []) (opening tabled) ≡ Err (halts.Fault AbsentObject))
unfolding effect_of in_tabled tabled memory code
links = (refl, refl, refl, refl)

-- attribute 9 is the second bit from the top of the second byte of an entry; that of the second object stands at 151
marked : (effect_of in_tabled operations.SetAttribute (1 ∷ 9 ∷ []) (opening tabled) ≡ Ok (rewriting (slice_set tabled.memory 142 0x40))) × (effect_of in_tabled operations.ClearAttribute (2 ∷ 9 ∷ []) (opening tabled) ≡ Ok (rewriting (slice_set tabled.memory 151 0))) × (effect_of in_tabled operations.SetAttribute (1 ∷ 32 ∷ []) (opening tabled) ≡ Err (halts.Fault AbsentAttribute)) × (effect_of in_tabled operations.ClearAttribute (0 ∷ 32 ∷ []) (opening tabled) ≡ Err (halts.Fault AbsentObject))
unfolding effect_of in_tabled tabled memory code
marked = (refl, refl, refl, refl)

-- the second object leaves the first, whose child is at 147 and whose parent at 145; its own parent stands at 154
rearranged : (effect_of in_tabled operations.Remove (2 ∷ []) (opening tabled) ≡ Ok (rewriting (slice_set (slice_set tabled.memory 147 0) 154 0))) × (effect_of in_tabled operations.Insert (1 ∷ 2 ∷ []) (opening tabled) ≡ Ok (rewriting (slice_set (slice_set tabled.memory 145 2) 156 1))) × (effect_of in_tabled operations.Insert (1 ∷ 3 ∷ []) (opening tabled) ≡ Err (halts.Fault AbsentObject)) × (effect_of in_tabled operations.Insert (0 ∷ 2 ∷ []) (opening tabled) ≡ Err (halts.Fault AbsentObject)) × (effect_of in_tabled operations.Remove (3 ∷ []) (opening tabled) ≡ Err (halts.Fault AbsentObject))
unfolding effect_of in_tabled tabled memory code row
rearranged = (refl, refl, refl, refl, refl)

-- a parent that is none of the objects is met on the way
unmoved : effect_of in_tabled operations.Remove (2 ∷ []) (record (opening tabled) { memory = slice_set tabled.memory 154 3 }) ≡ Err (halts.Fault AbsentObject)
unfolding effect_of in_tabled tabled memory code
unmoved = refl

-- the memory is rewritten before a global of it is
rewritten_first : (changed tabled (record { opcode = Nop; operands = []; store = Some 16; branch = None; size = 1 }) (record (rewriting (replicate 71 9)) { gives = Some 0x102 }) (opening tabled)).memory ≡ replicate 64 9 ++ 1 ∷ 2 ∷ replicate 5 9
unfolding changed put put_named tabled memory code
rewritten_first = refl

-- 0 is no routine, nor is what has 255 locals, what isn't listed, and what has no head any more
uncalled : (effect_of setting operations.Call (0 ∷ 7 ∷ []) state ≡ Ok (giving 0)) × (effect_of setting operations.Call (34 ∷ []) state ≡ Err (halts.Fault UnlistedCall)) × (effect_of (record setting { scope = scope_only (record { records = []; routines = 66 ∷ [] }) }) operations.Call (32 ∷ []) state ≡ Err (halts.Fault UnlistedCall)) × (effect_of setting operations.Call (32 ∷ []) (record state { memory = slice_set memory 64 16 }) ≡ Err (halts.Fault UnlistedCall))
unfolding effect_of setting story memory code state frame
uncalled = (refl, refl, refl, refl)

returns : (effect_of setting operations.Return (9 ∷ []) state ≡ Ok (returning 9)) × (effect_of setting operations.PrintReturn [] (at 72) ≡ Ok (record (printing (hello ++ 10 ∷ [])) { moves = back 1 })) × (effect_of setting operations.PrintReturn [] (at 77) ≡ Err (halts.Fault TextOutside))
unfolding effect_of output_at output_of_characters small_letters setting at story memory code hello
returns = (refl, refl, refl)

-- ---- variables that are written

written : (put story 0 9 state ≡ with_stack (9 ∷ 5 ∷ 6 ∷ []) state) × (put_in_place story 0 9 state ≡ with_stack (9 ∷ 6 ∷ []) state) × (put story 2 9 state ≡ with_locals (7 ∷ 9 ∷ []) state) × ((put_in_place story 18 0x1234 state).memory ≡ write_word memory 68 0x1234) × (read_named story 18 (put_in_place story 18 0x1234 state) ≡ Ok 0x1234)
unfolding put put_in_place put_named read_named story memory code state frame
written = (refl, refl, refl, refl, refl)

-- fifteen locals, of which the last is 9; the next variable is a global
fifteen : State
fifteen = with_locals (replicate 14 0 ++ 9 ∷ []) state

last_local : (read_named story 15 fifteen ≡ Ok 9) × (read_named story 16 fifteen ≡ Ok 0x0102) × ((put story 15 5 fifteen).frame.locals ≡ replicate 14 0 ++ 5 ∷ []) × ((put story 16 5 fifteen).memory ≡ write_word memory 64 5) × ((put story 16 5 fifteen).frame.locals ≡ fifteen.frame.locals)
unfolding put put_named read_named fifteen story memory code state frame
last_local = (refl, refl, refl, refl, refl)

-- the high byte first
written_words : (write_word (1 ∷ 2 ∷ 3 ∷ 4 ∷ []) 1 0xFF00 ≡ 1 ∷ 0xFF ∷ 0x00 ∷ 4 ∷ []) × (write_word (1 ∷ 2 ∷ 3 ∷ []) 0 0x0100 ≡ 1 ∷ 0 ∷ 3 ∷ []) × (write_word (1 ∷ 2 ∷ []) 0 0xFFFF ≡ 0xFF ∷ 0xFF ∷ [])
written_words = (refl, refl, refl)

there : (exists 0 frame ≡ true) × (exists 2 frame ≡ true) × (exists 3 frame ≡ false) × (exists 15 frame ≡ false) × (exists 16 frame ≡ true) × (exists 1 (record frame { locals = []; stack = 5 ∷ [] }) ≡ false)
unfolding frame
there = (refl, refl, refl, refl, refl, refl)

full : (stack : List ℕ) → length stack ≡ 65535 → (has_room 0 (record frame { stack = stack }) ≡ false) × (has_room 1 (record frame { stack = stack }) ≡ true)
full stack deep = (rw deep refl, refl)

nearly_full : (stack : List ℕ) → length stack ≡ 65534 → has_room 0 (record frame { stack = stack }) ≡ true
nearly_full stack deep = rw deep refl

-- ---- where a step leads

-- a branch on true with an offset of so much
branching : ℤ → Instruction
branching offset = record { opcode = Jz; operands = Variable 1 ∷ []; store = None; branch = Some (record { sense = true; offset = offset }); size = 4 }

ways : (way (Some true) (branching (negsuc 1)).branch ≡ Some (Relative (negsuc 3))) × (way (Some false) (branching (pos 5)).branch ≡ None) × (course (testing true) (branching (pos 0)).branch ≡ back 0) × (course (testing true) (branching (pos 1)).branch ≡ back 1) × (course (testing false) (branching (pos 1)).branch ≡ on (pos 0))
unfolding branching
ways = (refl, refl, refl, refl, refl)

-- a frame that returns to 75, in a caller's variable 2
called : State
called = record (at 72) { frame = record frame { return_place = 75; result = 2 }; callers = frame ∷ first_frame ∷ [] }

-- a routine that is entered
entered : Move
entered = into (record { place = 80; locals = []; supplied = 0 })

-- of the callers: a return needs one, and that it has the variable; a step that neither returns nor calls asks nothing of them
callers : (has_caller (back 9) [] ≡ false) × (has_caller (back 9) (frame ∷ []) ≡ true) × (has_caller (on (pos 2)) [] ≡ true) × (has_caller entered [] ≡ true)
unfolding entered frame
callers = (refl, refl, refl, refl)

takers :
    (is_taken (back 9) 2 (frame ∷ []) ≡ true) × (is_taken (back 9) 3 (frame ∷ []) ≡ false) × (is_taken (back 9) 0 (first_frame ∷ []) ≡ true) × (is_taken (back 9) 3 [] ≡ true)
    × (is_taken (on (pos 2)) 3 (frame ∷ []) ≡ true) × (is_taken entered 3 (frame ∷ []) ≡ true)
unfolding entered frame
takers = (refl, refl, refl, refl, refl, refl)

-- there may be two frames above the first: with one there is room for another, and with two there is none, which a call alone asks for
roomy :
    (is_roomy 2 entered 0 (first_frame ∷ []) ≡ true) × (is_roomy 2 entered 0 (frame ∷ first_frame ∷ []) ≡ false) × (is_roomy 2 (on (pos 2)) 0 (frame ∷ first_frame ∷ []) ≡ true)
    × (is_roomy 0 (back 9) 2 (frame ∷ []) ≡ true) × (is_roomy 0 (back 9) 0 [] ≡ true)
unfolding entered frame
roomy = (refl, refl, refl, refl, refl)

-- and a return asks for a word's room on its caller's stack, where that takes it
returned_roomy : (stack : List ℕ) → length stack ≡ 65535 → (is_roomy 9 (back 9) 0 (record frame { stack = stack } ∷ []) ≡ false) × (is_roomy 9 (back 9) 2 (record frame { stack = stack } ∷ []) ≡ true)
returned_roomy stack deep = full stack deep

-- nothing returns from the first frame; a caller has to have the variable; then `quit` and a full stack are seen
settled : (settle 1024 (branching (pos 0)) (testing true) (at 72) ≡ Err (halts.Fault ReturnFromMain)) × (settle 1024 (branching (pos 0)) (testing true) called ≡ Ok tt) × (settle 1024 (branching (pos 1)) (testing true) (record called { callers = first_frame ∷ [] }) ≡ Err (halts.Fault AbsentLocal)) × (settle 1024 (plain 1) quitting (at 72) ≡ Err halts.Quit) × (settle 1024 (record (plain 1) { store = Some 3 }) (giving 4) state ≡ Err (halts.Fault AbsentLocal)) × (settle 1024 (record (plain 1) { store = Some 2 }) (giving 4) state ≡ Ok tt)
unfolding admits pauses branching called plain state frame at
settled = (refl, refl, refl, refl, refl, refl)

-- the result variable before a return from the first frame, and both before a need
settled_in_order : (settle 1024 (record (branching (pos 0)) { store = Some 9 }) (record (testing true) { gives = Some 1 }) (at 72) ≡ Err (halts.Fault AbsentLocal)) × (settle 1024 (branching (pos 0)) (record (testing true) { needs = Some needs.Saved }) (at 72) ≡ Err (halts.Fault ReturnFromMain)) × (settle 1024 (plain 1) (record quitting { needs = Some needs.Random }) (at 72) ≡ Err (halts.Need needs.Random))
unfolding admits pauses branching plain at
settled_in_order = (refl, refl, refl)

-- the result variable before a need, and a need before room for what it gives
needed_in_order : (stack : List ℕ) → length stack ≡ 65535 → (settle 1024 (record (plain 1) { store = Some 3 }) (record (giving 0) { needs = Some needs.Random }) state ≡ Err (halts.Fault AbsentLocal)) × (settle 1024 (record (plain 1) { store = Some 0 }) (record (giving 0) { needs = Some needs.Random }) (with_stack stack state) ≡ Err (halts.Need needs.Random)) × (settle 1024 (record (plain 1) { store = Some 0 }) (giving 0) (with_stack stack state) ≡ Err halts.FrameLimit)
unfolding admits pauses plain state frame
needed_in_order stack deep = (refl, refl, rw deep refl)

-- a call asks for the variable that takes the result, and then for a frame more
called_in_order : (settle 1 (record (plain 3) { store = Some 2 }) (calling two) state ≡ Ok tt) × (settle 0 (record (plain 3) { store = Some 2 }) (calling two) state ≡ Err halts.FrameLimit) × (settle 2 (record (plain 3) { store = Some 2 }) (calling two) called ≡ Err halts.FrameLimit) × (settle 3 (record (plain 3) { store = Some 2 }) (calling two) called ≡ Ok tt) × (settle 0 (record (plain 3) { store = Some 3 }) (calling two) state ≡ Err (halts.Fault AbsentLocal))
unfolding admits pauses called plain state frame two at
called_in_order = (refl, refl, refl, refl, refl)

-- at a call, no room for its result is asked for
called_when_full : (stack : List ℕ) → length stack ≡ 65535 → settle 1 (plain 1) (calling two) (with_stack stack state) ≡ Ok tt
unfolding admits pauses plain two state
called_when_full stack deep = refl

full_stack : (stack : List ℕ) → length stack ≡ 65535 → settle 1024 (plain 1) (giving 4) (with_stack stack state) ≡ Err halts.FrameLimit
unfolding admits pauses plain
full_stack stack deep = rw deep refl

-- ---- the effect, done

acts : (act story (plain 5) proceeds (at 72) ≡ at 77) × (act story (plain 5) (printing hello) (at 72) ≡ at 77) × (advance (plain 1) (at_place (negsuc 0) (at 0)) ≡ at 0)
unfolding act changed plain at
acts = (refl, refl, refl)

-- a jump, or a branch, of 4 back from behind its instruction is for ever; a return goes to the caller's variable
goes_on : (act story (branching (negsuc 1)) (testing true) (at 72) ≡ at 72) × (act story (branching (negsuc 1)) (testing false) (at 72) ≡ at 76) × (act story (plain 3) (record proceeds { moves = on (negsuc 2) }) (at 72) ≡ at 72) × (act story (branching (pos 1)) (testing true) called ≡ record (at 75) { frame = record frame { locals = 7 ∷ 1 ∷ [] }; callers = first_frame ∷ [] })
unfolding act changed put put_named branching called plain frame at
goes_on = (refl, refl, refl, refl)

-- a routine returns behind its call; what it returns goes to the variable of the call, in the caller's frame
enters : act story (record (plain 4) { store = Some 2 }) (calling two) state ≡ record state { frame = record { return_place = 74; result = 2; supplied = 1; locals = 7 ∷ 0xFEBB ∷ 0xB4B2 ∷ []; stack = [] }; callers = frame ∷ []; place = pos 73 }
unfolding act changed plain state frame two story memory code
enters = refl

comes_back : act story (plain 1) (returning 9) called ≡ record (at 75) { frame = record frame { locals = 7 ∷ 9 ∷ [] }; callers = first_frame ∷ [] }
unfolding act changed put put_named plain called frame at
comes_back = refl

-- an inc_chk of local 2 against 0, which branches 18 bytes on
counts_and_branches : act story (record (branching (pos 20)) { opcode = IncChk }) (record (assigning 2 9) { tests = Some true }) state ≡ at_place (pos 92) (with_locals (7 ∷ 9 ∷ []) state)
unfolding act changed put_in_place put_named branching state frame story memory code
counts_and_branches = refl

gives_and_assigns : (act story (record (plain 3) { store = Some 0 }) (giving 9) state ≡ at_place (pos 73) (with_stack (9 ∷ 5 ∷ 6 ∷ []) state)) × (act story (plain 3) (assigning 0 9) state ≡ at_place (pos 73) (with_stack (9 ∷ 6 ∷ []) state))
unfolding act changed put put_in_place plain state frame story memory code
gives_and_assigns = (refl, refl)

-- pull takes a word off the stack before its variable is judged
pulls : (read_operands story (inputs (record (plain 3) { opcode = Pull; operands = Constant 16 ∷ [] })) state ≡ Ok (16 ∷ 5 ∷ [], popped 1 state)) × (read_operands story (inputs (record (plain 3) { opcode = Pull; operands = Constant 16 ∷ [] })) (at 72) ≡ Err (halts.Fault StackUnderflow))
unfolding in_turn read_operand read_variable plain state frame at
pulls = (refl, refl)

given : (items_of proceeds ≡ []) × (items_of (printing (72 ∷ 105 ∷ [])) ≡ Text 72 ∷ Text 105 ∷ []) × (items_of (record (showing (lined hello 1 true)) { bytes = 65 ∷ [] }) ≡ Status (lined hello 1 true) ∷ Text 65 ∷ [])
given = (refl, refl, refl)

-- a stack gets longer where it is pushed, but not where that of the caller is, which is the newest again
longer : IsLonger state (with_stack (1 ∷ 5 ∷ 6 ∷ []) state) × (IsLonger called (record called { frame = record frame { stack = 0 ∷ 5 ∷ 6 ∷ [] }; callers = first_frame ∷ [] }) → ⊥) × (IsLonger state (with_stack (1 ∷ 6 ∷ []) state) → ⊥)
unfolding state frame called
longer = ((refl, omega arith), (λ h. let e = h.0 in absurd cc), λ h. omega (arith, h.1))

-- a frame more is deeper
deeper : IsDeeper state (record state { callers = frame ∷ [] }) × (IsDeeper state state → ⊥)
unfolding state frame
deeper = (omega arith, λ d. omega (arith, d))

-- ---- frames in one list of words

-- the frame that the story opens with, with 5 on top of 6, and one of a routine with the local 7 and 9 on its stack
first_head : Head
first_head = record { base = 0; return_place = 0; result = 0; supplied = 0; count = 0 }

second_head : Head
second_head = record { base = 3; return_place = 75; result = 4; supplied = 2; count = 1 }

packed : (chain_of second_head (first_head ∷ []) (6 ∷ 5 ∷ 0 ∷ 7 ∷ 9 ∷ []) ≡ record { newest = record { return_place = 75; result = 4; supplied = 2; locals = 7 ∷ []; stack = 9 ∷ [] }; callers = record first_frame { stack = 5 ∷ 6 ∷ [] } ∷ [] }) × ArePacked second_head (first_head ∷ []) (6 ∷ 5 ∷ 0 ∷ 7 ∷ 9 ∷ []) × ArePacked second_head (record first_head { count = 2 } ∷ []) (6 ∷ 5 ∷ 0 ∷ 7 ∷ 9 ∷ []) × (ArePacked second_head [] (6 ∷ 5 ∷ 0 ∷ []) → ⊥) × (ArePacked (record second_head { base = 0 }) (first_head ∷ []) (6 ∷ []) → ⊥)
unfolding first_head second_head frames_of AreBelow
packed = (refl, (omega arith, (omega arith, omega arith, tt)), (omega arith, (omega arith, omega arith, tt)), (λ p. omega (arith, p.0)), λ p. omega (arith, p.1.0))

-- ---- steps

planned : plan setting (at 70) ≡ Ok (plain 1, printing (10 ∷ []), at 70)
unfolding plan fetch effect_of operation_of admits pauses in_turn instruction_at head_at short_head checked_head operands_at store_if branch_if text_if setting plain at story memory code
planned = refl

unplanned : (plan setting (at 79) ≡ Err (halts.Fault UnlistedInstruction)) × (plan setting (at 78) ≡ Err (halts.Fault IllegalOpcode))
unfolding plan fetch instruction_at head_at short_head setting at story memory code
unplanned = (refl, refl)

new_line_step : step setting (at 70) ≡ Ok (record { state = at 71; items = Text 10 ∷ [] })
unfolding step plan act changed fetch effect_of operation_of admits pauses in_turn instruction_at head_at short_head checked_head operands_at store_if branch_if text_if setting at story memory code
new_line_step = refl

nop_step : step setting (at 71) ≡ Ok (record { state = at 72; items = [] })
unfolding step plan act changed fetch effect_of operation_of admits pauses in_turn instruction_at head_at short_head checked_head operands_at store_if branch_if text_if setting at story memory code
nop_step = refl

print_step : step setting (at 72) ≡ Ok (record { state = at 77; items = map Text hello })
unfolding step plan act changed fetch effect_of operation_of admits pauses in_turn instruction_at head_at short_head checked_head operands_at store_if branch_if text_if output_at output_of_characters small_letters setting at story memory code hello
print_step = refl

quit_step : step setting (at 77) ≡ Err halts.Quit
unfolding step plan fetch effect_of operation_of admits pauses in_turn instruction_at head_at short_head checked_head operands_at store_if branch_if text_if setting at story memory code
quit_step = refl

no_step : (step setting (at 78) ≡ Err (halts.Fault IllegalOpcode)) × (step setting (at 79) ≡ Err (halts.Fault UnlistedInstruction))
unfolding step plan fetch instruction_at head_at short_head setting at story memory code
no_step = (refl, refl)

-- ---- runs

stops_so : (stop_of (halts.Fault StackUnderflow) (at 72) ≡ stops.Fault StackUnderflow (pos 72)) × (stop_of (halts.Need needs.Saved) state ≡ stops.Paused pauses.NeedSave) × (stop_of halts.Quit state ≡ stops.Paused pauses.Quit) × (stop_of halts.FrameLimit state ≡ stops.Paused pauses.FrameLimit)
unfolding at
stops_so = (refl, refl, refl, refl)

answered : (is_answered (halts.Need needs.Random) (events.Random 7) ≡ true) × (is_answered (halts.Need needs.Random) events.NotRestored ≡ false) × (is_answered halts.Quit (events.Random 7) ≡ false) × (is_answered (halts.Fault StackUnderflow) (events.Random 7) ≡ false)
answered = (refl, refl, refl, refl)

needed : (need_in (Err (halts.Need needs.Line)) ≡ Some needs.Line) × (need_in (Err halts.Quit) ≡ None) × (need_in (Ok (record { state = state; items = [] })) ≡ None)
needed = (refl, refl, refl)

-- nothing is awaited where an event waits, or where the step is none that waits
awaits_nothing : (awaited setting (give (events.Random 1) (at 78)) ≡ None) × (awaited setting (at 78) ≡ None)
unfolding step plan fetch instruction_at head_at short_head setting at story memory code
awaits_nothing = (refl, refl)

-- the budget ends before a step that can be made; `quit` and a fault are seen there too
runs : (run setting [] 0 (at 70) ≡ record { stop = stops.Paused pauses.Budget; state = at 70; items = [] })
    × (run setting [] 2 (at 70) ≡ record { stop = stops.Paused pauses.Budget; state = at 72; items = Text 10 ∷ [] })
    × (run setting [] 3 (at 70) ≡ record { stop = stops.Paused pauses.Quit; state = at 77; items = Text 10 ∷ map Text hello })
    × (run setting [] 9 (at 70) ≡ record { stop = stops.Paused pauses.Quit; state = at 77; items = Text 10 ∷ map Text hello })
    × (run setting [] 0 (at 78) ≡ record { stop = stops.Fault IllegalOpcode (pos 78); state = at 78; items = [] })
unfolding run until at hello
runs =
    let a = new_line_step in
    let b = nop_step in
    let c = print_step in
    let d = quit_step in
    (rw a refl, rw (a, b, c) refl, rw (a, b, c, d) refl, rw (a, b, c, d) refl, rw no_step.0 refl)

-- an event that nothing needs isn't used
event_unused : run setting (Given (events.Random 7) ∷ []) 5 (at 78) ≡ record { stop = stops.Fault IllegalOpcode (pos 78); state = at 78; items = [] }
unfolding run until at
event_unused = rw no_step.0 refl

-- where no step is made, the state stays
stays_there : (t : State) → Goes setting 0 state t [] → t ≡ state
stays_there t goes = goes.0

goes : Goes setting 0 (at 70) (at 70) [] × Goes setting 2 (at 70) (at 72) (Text 10 ∷ [])
goes = ((refl, refl), (_, _, new_line_step, (_, _, nop_step, (refl, refl), refl), refl))

-- so what is given out comes behind what was there
makes : Makes setting 2 (at 70) (at 72) (Text 1 ∷ []) (Text 1 ∷ Text 10 ∷ []) × ((t : State) → Makes setting 0 state t [] [] → t ≡ state) × (Makes setting 0 state state [] (Text 1 ∷ []) → ⊥)
makes = (record { given = Text 10 ∷ []; goes = goes.1; items_are = refl }, (λ t made. made.goes.0), λ made. let none = made.goes.1 in let e = made.items_are in absurd cc)

ending : Ending
ending = record { stop = stops.Paused pauses.Budget; state = state; items = Text 10 ∷ [] }

ends_so : Ends (stops.Paused pauses.Budget) state (Text 1 ∷ []) (Text 1 ∷ Text 10 ∷ []) ending × (Ends (stops.Paused pauses.Budget) state [] [] ending → ⊥)
unfolding ending
ends_so = (record { stop_is = refl; state_is = refl; items_are = refl }, λ its. let e = its.items_are in absurd cc)

stands : Stands setting (stops.Paused pauses.Budget) (at 70) × Stands setting (stops.Paused pauses.Quit) (at 77) × Stands setting (stops.Fault IllegalOpcode (pos 78)) (at 78)
unfolding at
stands = ((_, new_line_step), (_, quit_step, refl), (_, no_step.0, refl))

-- ---- what functions answer

gives : Gives (λ (n : ℕ). n + 1) (Ok 3) (Ok 4) × Gives (λ (n : ℕ). n + 1) (Err halts.Quit) (Err halts.Quit) × (Gives (λ (n : ℕ). n + 1) (Ok 3) (Ok 3) → ⊥) × (Gives (λ (n : ℕ). n + 1) (Ok 3) (Err halts.Quit) → ⊥)
gives = (refl, refl, λ g. absurd cc, λ g. absurd cc)

near : IsNear (pos 0) × IsNear (pos 1000000) × (IsNear (pos 1000001) → ⊥) × (IsNear (negsuc 0) → ⊥)
near = ((omega arith, omega arith), (omega arith, omega arith), λ n. omega (arith, n.1), λ n. omega (arith, n.0))
