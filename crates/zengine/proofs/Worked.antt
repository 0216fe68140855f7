-- Values of the definitions, computed.
use Rattle.std.proofs.Common.{pos, ◌≡◌, ℕ, false, List, [], ◌∷◌, ◌++◌, replicate, Some, None, Ok, Err, refl, take, arith}
use Rattle.zword.specs.declared.binary.BinaryOp.TheVariants as binaries
use Rattle.zword.specs.declared.count.CountOp.TheVariants as counts
use Rattle.zword.specs.declared.unary.UnaryOp.TheVariants as unaries
use Rattle.zfault.specs.declared.fault.Fault.TheVariants.{StackUnderflow, AbsentLocal, BadVariable, ZeroDivisor}
use Rattle.zcode.specs.declared.opcode.Opcode.TheVariants as opcodes
use Rattle.zcode.specs.declared.instr.Operand.TheVariants as operands
use Rattle.zcode.specs.declared.operation.Operation.TheVariants as operations
use Rattle.zcode.specs.Instruction.{Instruction}
use Rattle.zcode.specs.Operation.{operation_of}
use Rattle.zstory.specs.LoadedStory.{LoadedStory}
use Rattle.zquetzal.specs.Saved.{Frame as SavedFrame}
use Rattle.zstate.specs.declared.halt.Halt.TheVariants as halts
use Rattle.zstate.specs.declared.mode.RandomMode.TheVariants.{Words}
use Rattle.zstate.specs.InTurn.{in_turn}
use Rattle.zstate.specs.State.{Setting, read_named, read_operand, read_variable, scope_all, put}
use Rattle.zstate.specs.Step.{laid_over, act, admits, changed, effect_of, pauses}
use Rattle.zengine.specs.Frames.{AreFrames, IsCalled, base_of}
use Rattle.zengine.specs.Lying.{chain_of}
use Rattle.zengine.specs.Play.{jumped_by}
use Rattle.zengine.specs.Resuming.{AreBacks, HaveRows, height_after, all_laid, laid_frames, length_laid, newest_laid}
use Rattle.zengine.specs.declared.doing.Aside.TheVariants as asides
use Rattle.zengine.specs.declared.doing.Making.TheVariants as makings
use Rattle.zengine.specs.declared.doing.Naming.TheVariants as namings
use Rattle.zengine.specs.declared.doing.Nowhere.TheVariants as nowheres
use Rattle.zengine.specs.declared.row.Callee.{Callee}
use Rattle.zengine.specs.declared.row.Row.{Row}
use Rattle.zengine.specs.declared.row.Slot.TheVariants.{Local, High, Global, Constant}
use Rattle.zengine.specs.declared.row.Spot.{Spot}
use Rattle.zengine.specs.declared.row.Action.TheVariants as actions
use Rattle.zengine.specs.Body.{Body, callers_at, frame_at, standing}
use Rattle.zengine.specs.Rows.{IsGiving, IsNaming, IsOf, held_slot, landed, landing, result_slot, slot_of, slots_of, step_by}
use Rattle.zengine.specs.Slots.{value_of, with_slot, word_slot}

-- globals begin at 64: 258
story : LoadedStory
story = record { memory = replicate 13 0 ++ 64 ∷ replicate 50 0 ++ 1 ∷ 2 ∷ []; objects = 0 }

setting : Setting
setting = record { story = story; scope = scope_all story; limit = 9 }

-- the first frame's head, and 5 and 6 on its stack; then that of a frame below which it lies 7 words, which returns to row 1 with its
-- result to the stack and was supplied 1 argument, and has locals 7 and 8, and 9 on its stack
words : List ℕ
words = 0 ∷ 0 ∷ 0 ∷ 0 ∷ 0 ∷ 5 ∷ 6 ∷ 1 ∷ 0 ∷ 7 ∷ 0 ∷ 256 ∷ 7 ∷ 8 ∷ 9 ∷ 0 ∷ []

-- row 1 follows the call; row 2 stands where one word is on the stack of the callee, and row 3 behind it
spots : List Spot
spots = record { place = pos 0; count = 0; height = 0 } ∷ record { place = pos 50; count = 0; height = 3 } ∷ record { place = pos 60; count = 2; height = 1 } ∷ record { place = pos 64; count = 2; height = 1 } ∷ []

here : Spot
here = record { place = pos 60; count = 2; height = 1 }

body : Body
body = record { words = words; base = 12; above = 1; memory = story.memory; outside = record { random = Words; prompted = false; waiting = None } }

stands : (standing spots here body).frame ≡ record { return_place = 50; result = 0; supplied = 1; locals = 7 ∷ 8 ∷ []; stack = 9 ∷ [] }
unfolding spots here body words frame_at
stands = refl

-- the caller has what was on its stack before the call's result
below : (standing spots here body).callers ≡ record { return_place = 0; result = 0; supplied = 0; locals = []; stack = 6 ∷ 5 ∷ [] } ∷ []
unfolding spots here body words frame_at callers_at
below = refl

-- both frames, the newest first
lying : chain_of spots words 1 (record { base = 12; count = 2; height = 1 }) ≡ record { base = 12; count = 2; height = 1 } ∷ record { base = 5; count = 0; height = 2 } ∷ []
unfolding spots words chain_of
lying = refl

-- the oldest returns to no row
oldest : AreFrames story spots [] 0 5 (65535 ∷ 65535 ∷ 0 ∷ 0 ∷ 0 ∷ [])
unfolding AreFrames
oldest = (refl, refl)

-- the newest lies behind the head and the two words of the frame below, and its own head
lies_close : base_of (standing spots here body).callers ≡ 12
unfolding spots here body words frame_at callers_at
lies_close = refl

-- ---- slots

operands_here : slots_of story 2 (operands.Variable 0 ∷ operands.Variable 2 ∷ operands.Variable 16 ∷ operands.Constant 9 ∷ []) 1 ≡ Ok (Local 2 ∷ Local 1 ∷ Global 64 ∷ Constant 9 ∷ [], 0)
unfolding in_turn slot_of story word_slot
operands_here = refl

-- the stack has one word, and the frame two locals
absent : (slots_of story 2 (operands.Variable 0 ∷ operands.Variable 0 ∷ []) 1 ≡ Err (halts.Fault StackUnderflow)) × (slots_of story 2 (operands.Variable 3 ∷ []) 1 ≡ Err (halts.Fault AbsentLocal))
unfolding in_turn slot_of
absent = (refl, refl)

results : (result_slot story 2 0 1 ≡ Ok (Local 3, 2)) × (result_slot story 2 2 1 ≡ Ok (Local 1, 1)) × (result_slot story 2 17 1 ≡ Ok (Global 66, 1)) × (result_slot story 2 15 1 ≡ Err (halts.Fault AbsentLocal))
unfolding result_slot story word_slot
results = (refl, refl, refl, refl)

in_place : (held_slot story 2 0 1 ≡ Ok (Local 2)) × (held_slot story 2 0 0 ≡ Err (halts.Fault StackUnderflow)) × (held_slot story 2 1 0 ≡ Ok (Local 0)) × (held_slot story 2 256 1 ≡ Err (halts.Fault BadVariable))
unfolding held_slot word_slot
in_place = (refl, refl, refl, refl)

values : (value_of (Local 2) body ≡ 9) × (value_of (Local 0) body ≡ 7) × (value_of (Global 64) body ≡ 258) × (value_of (Constant 3) body ≡ 3)
unfolding body words story
values = (refl, refl, refl, refl)

-- a frame may have 15 locals and 65,535 words on its stack, of which the last 14 lie behind its first 65,536
high : (result_slot story 2 0 65533 ≡ Ok (Local 65535, 65534)) × (result_slot story 2 0 65534 ≡ Ok (High 0, 65535)) × (held_slot story 15 0 65535 ≡ Ok (High 13))
unfolding result_slot held_slot word_slot
high = (refl, refl, refl)

-- a result finds no room upon 65,535 words, and a return that goes there none: the row to come back to has as many
full : (result_slot story 2 0 65535 ≡ Err halts.FrameLimit) × (landed 65535 (Err halts.FrameLimit) ≡ (Constant 1, 65535)) × (landing (Constant 1) 65535 ≡ Err halts.FrameLimit) × (landing (Constant 0) 3 ≡ Err (halts.Fault AbsentLocal)) × (height_after 0 65535 ≡ 65535)
unfolding result_slot
full = (refl, refl, refl, refl, refl)

-- push 7 onto a full stack, and random 7
push : Instruction
push = record { opcode = opcodes.Push; operands = operands.Constant 7 ∷ []; store = None; branch = None; size = 3 }

random : Instruction
random = record { opcode = opcodes.Random; operands = operands.Constant 7 ∷ []; store = Some 0; branch = None; size = 4 }

-- where as many words are on the stack as there may be
at_limit : Spot
at_limit = record { place = pos 60; count = 2; height = 65535 }

lost_row : Row
lost_row = record { action = actions.Lost (makings.Unary unaries.Keep) nowheres.Full; a = Constant 7; b = Constant 0; to = Constant 0; target = 0; next = 0; came = Constant 0 }

is_lost : IsOf setting spots [] [] story.memory (Ok push) at_limit lost_row (actions.Lost (makings.Unary unaries.Keep) nowheres.Full)
unfolding setting push at_limit lost_row operation_of in_turn slot_of result_slot
is_lost = record { instruction = push; is = refl; operation_is = refl; left = 65535; reads = refl; absent = refl; on = tt }

is_undrawn : IsOf setting spots [] [] story.memory (Ok random) at_limit lost_row (actions.Aside asides.RandomFull)
unfolding setting random at_limit lost_row operation_of in_turn slot_of result_slot
is_undrawn = record { instruction = random; is = refl; operation_is = refl; left = 65535; reads = refl; absent = refl; on = tt }

-- ---- a row

-- div sp local 2 -> sp
div : Instruction
div = record { opcode = opcodes.Div; operands = operands.Variable 0 ∷ operands.Variable 2 ∷ []; store = Some 0; branch = None; size = 4 }

row : Row
row = record { action = actions.Binary binaries.Div; a = Local 2; b = Local 1; to = Local 2; target = 0; next = 3; came = Local 2 }

is_row : IsGiving setting spots [] [] story.memory (Ok div) here row (operations.Binary binaries.Div) (Local 2 ∷ Local 1 ∷ []) (Local 2)
unfolding setting spots here row div operation_of in_turn slot_of result_slot word_slot
is_row = record { instruction = div; is = refl; operation_is = refl; left = 0; reads = refl; height = 1; puts = refl; on = refl }

-- 9 by 8 is 1, and nothing is divided by 0
steps : step_by setting (Ok div) (standing spots here body) ≡ Ok (record { state = standing spots (record { place = pos 64; count = 2; height = 1 }) (with_slot (Local 2) 1 body); items = [] })
unfolding setting spots here div body words story step_by operation_of in_turn read_operand read_variable read_named effect_of admits pauses changed act put frame_at callers_at
steps = refl

halts_there : step_by setting (Ok div) (standing spots here (with_slot (Local 1) 0 body)) ≡ Err (halts.Fault ZeroDivisor)
unfolding setting spots here div body words story step_by operation_of in_turn read_operand read_variable read_named effect_of frame_at
halts_there = refl

-- ---- a call and a return

-- so many locals, and the words that they begin with: 3 and 4
callee : Callee
callee = record { count = 2; words = 3 ∷ 4 ∷ replicate 14 0 }

-- the first is the argument 9
laid : (laid_over (9 ∷ []) (take 2 callee.words) ≡ 9 ∷ 4 ∷ []) × (laid_over (9 ∷ 8 ∷ 7 ∷ []) (take 2 callee.words) ≡ 9 ∷ 8 ∷ [])
unfolding callee laid_over
laid = (refl, refl)

-- the frame was called from row 1's place, where its result is pushed as the third word
is_called : IsCalled story spots (row ∷ record row { came = Local 2 } ∷ []) 12 5 1 0
unfolding spots row result_slot story word_slot
is_called = record { there = omega arith; head = omega arith; apart = refl; low = omega arith; place = 50; place_is = refl; lands = refl }

-- ---- a save

-- of the two frames above
frames : List SavedFrame
frames = record { return_place = 0; result = 0; supplied = 0; locals = []; stack = 5 ∷ 6 ∷ [] } ∷ record { return_place = 50; result = 0; supplied = 1; locals = 7 ∷ 8 ∷ []; stack = 9 ∷ [] } ∷ []

-- it is laid as they lie, but for the oldest, which returns to no row
words_of_save : (all_laid frames (1 ∷ []) ≡ 65535 ∷ 65535 ∷ 0 ∷ 0 ∷ 0 ∷ 5 ∷ 6 ∷ 1 ∷ 0 ∷ 7 ∷ 0 ∷ 256 ∷ 7 ∷ 8 ∷ 9 ∷ []) × (length_laid frames ≡ 15) × (newest_laid frames ≡ 12)
unfolding frames laid_frames
words_of_save = (refl, refl, refl)

-- the second returns to row 1, and the save stands at row 2
rows_of_save : HaveRows story spots (row ∷ record row { came = Local 2 } ∷ []) 2 (pos 60) frames (1 ∷ [])
unfolding spots row story frames AreBacks result_slot word_slot
rows_of_save = (record { leads = refl; lands = refl }, refl)

-- ---- what is named by a value

-- inc [sp]
inc : Instruction
inc = record { opcode = opcodes.Inc; operands = operands.Variable 0 ∷ []; store = None; branch = None; size = 2 }

names : IsNaming setting spots [] [] story.memory (Ok inc) here (record row { action = actions.Aside (asides.Named (namings.Count counts.Up) 2 0) }) (namings.Count counts.Up) 2 0
unfolding setting spots here row inc operation_of in_turn slot_of word_slot
names = record { instruction = inc; is = refl; operation_is = refl; count_is = refl; reads = refl }

-- a jump by -1 from behind the place 60, and by 9
jumps : (jumped_by (record row { action = actions.JumpBy 2 1; target = 60 }) 65535 ≡ record { place = pos 57; count = 2; height = 1 }) × (jumped_by (record row { action = actions.JumpBy 2 1; target = 60 }) 9 ≡ record { place = pos 67; count = 2; height = 1 })
jumps = (refl, refl)
