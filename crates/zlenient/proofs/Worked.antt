-- Lenient steps and what is customary, computed.
use Rattle.std.proofs.Common.{◌≡◌, ℕ, true, false, List, [], ◌∷◌, ◌++◌, replicate, slice_set, Option, Some, None, Ok, Err, pos, refl}
use Rattle.zarray.specs.declared.width.Width.TheVariants.{Byte, Word}
use Rattle.zobj.specs.declared.answers.PropertyQuestion.TheVariants.{Value, Address, Next}
use Rattle.zobj.specs.declared.tree.Link.TheVariants.{Parent, Child}
use Rattle.zobj.specs.Properties.{first_properties, after_number}
use Rattle.zcode.specs.declared.operation.Operation.{Operation}
use Rattle.zcode.specs.declared.operation.Operation.TheVariants as operations
use Rattle.zcode.specs.Operation.{operation_of}
use Rattle.zcode.specs.Reading.{instruction_at, head_at, long_head, variable_head, checked_head, operand_at, operands_at, store_if, branch_at, branch_if, text_if}
use Rattle.zfault.specs.declared.fault.Fault.{Fault}
use Rattle.zfault.specs.declared.fault.Fault.TheVariants.{IllegalOpcode, StackUnderflow, UnlistedCall, AbsentObject, AbsentAttribute, AbsentProperty, PropertyTooLong, ZeroDivisor, WriteOutside, ReadOutside, TextOutside, BadVariable}
use Rattle.zfault.specs.declared.pause.Pause.TheVariants.{Budget}
use Rattle.zstory.specs.LoadedStory.{LoadedStory}
use Rattle.zword.specs.declared.addressing.Addressing.TheVariants as addressings
use Rattle.zword.specs.declared.binary.BinaryOp.TheVariants as binary
use Rattle.zstate.specs.declared.halt.Halt.TheVariants as halts
use Rattle.zstate.specs.declared.halt.Stop.TheVariants as stops
use Rattle.zstate.specs.InTurn.{in_turn}
use Rattle.zstate.specs.State.{Setting, State, at_place, most_limit, opening, put, put_named, read_operand, read_variable, scope_all}
use Rattle.zstate.specs.Step.{pauses, Effect, act, admits, changed, effect_of, fetch, following, giving, plan, proceeds, step, testing}
use Rattle.zlenient.specs.Customary.{customary}
use Rattle.zlenient.specs.Front.{opened}
use Rattle.zlenient.specs.Step.{instead, lenient_fetch, lenient_step, passed_at, plan_instead}
use Rattle.zlenient.specs.Run.{lenient_run, lenient_until}

-- ---- the table

-- the table of two objects at 64, of which the second has, at 157, the data of property 3, which are three bytes
objects : List ℕ
objects =
    replicate 11 0 ++ 64 ∷ 0 ∷ 0 ∷ 0 ∷ 154 ∷ replicate 48 0 ++ replicate 10 0 ++ 1 ∷ 2 ∷ replicate 50 0
    ++ 0 ∷ 0 ∷ 0 ∷ 0 ∷ 0 ∷ 0 ∷ 0 ∷ 0 ∷ 144 ∷ 0 ∷ 0 ∷ 0 ∷ 0 ∷ 0 ∷ 0 ∷ 0 ∷ 0 ∷ 155
    ∷ 2 ∷ 0x35 ∷ 0x51 ∷ 0xC6 ∷ 0x85 ∷ 52 ∷ 0x12 ∷ 0x34 ∷ 5 ∷ 0x7F ∷ 0 ∷ 0 ∷ 67 ∷ 1 ∷ 2 ∷ 3 ∷ 0 ∷ []

tabled : LoadedStory
tabled = record { memory = objects; objects = 2 }

-- what is done in this story in the place of a fault of an operation
of : Operation → List ℕ → Fault → Option Effect
of operation values f = customary tabled operation values (opening tabled) f

divided : (of (operations.Binary binary.Div) (7 ∷ 0 ∷ []) ZeroDivisor ≡ Some (giving 0)) × (of (operations.Binary binary.Mod) (7 ∷ 0 ∷ []) ZeroDivisor ≡ Some (giving 0))
unfolding of tabled objects customary
divided = (refl, refl)

-- object 0 is in none: its parent is 0
told : (of operations.Inside (0 ∷ 0 ∷ []) AbsentObject ≡ Some (testing true)) × (of operations.Inside (0 ∷ 1 ∷ []) AbsentObject ≡ Some (testing false)) × (of operations.Inside (3 ∷ 0 ∷ []) AbsentObject ≡ Some (testing true)) × (of operations.TestAttribute (0 ∷ 5 ∷ []) AbsentObject ≡ Some (testing false)) × (of operations.TestAttribute (1 ∷ 32 ∷ []) AbsentAttribute ≡ Some (testing false)) × (of (operations.Follow Child) (0 ∷ []) AbsentObject ≡ Some (following 0)) × (of (operations.Follow Parent) (3 ∷ []) AbsentObject ≡ Some (following 0))
unfolding of tabled objects customary
told = (refl, refl, refl, refl, refl, refl, refl)

unchanged : (of operations.SetAttribute (0 ∷ 5 ∷ []) AbsentObject ≡ Some proceeds) × (of operations.ClearAttribute (1 ∷ 32 ∷ []) AbsentAttribute ≡ Some proceeds) × (of operations.Insert (1 ∷ 0 ∷ []) AbsentObject ≡ Some proceeds) × (of operations.Remove (0 ∷ []) AbsentObject ≡ Some proceeds) × (of operations.SetProperty (1 ∷ 6 ∷ 1 ∷ []) AbsentProperty ≡ Some proceeds) × (of operations.SetProperty (2 ∷ 3 ∷ 1 ∷ []) PropertyTooLong ≡ Some proceeds) × (of (operations.StoreArray Word) (154 ∷ 0 ∷ 1 ∷ []) WriteOutside ≡ Some proceeds)
unfolding of tabled objects customary
unchanged = (refl, refl, refl, refl, refl, refl, refl)

-- the first word of three bytes; 0 of no object, of a number that no property has, and behind one that isn't there
given : (of (operations.Property Value) (2 ∷ 3 ∷ []) PropertyTooLong ≡ Some (giving 258)) × (of (operations.Property Value) (0 ∷ 6 ∷ []) AbsentObject ≡ Some (giving 0)) × (of (operations.Property Value) (1 ∷ 32 ∷ []) AbsentProperty ≡ Some (giving 0)) × (of (operations.Property Address) (3 ∷ 20 ∷ []) AbsentObject ≡ Some (giving 0)) × (of (operations.Property Next) (1 ∷ 6 ∷ []) AbsentProperty ≡ Some (giving 0)) × (of operations.PropertyLength (200 ∷ []) ReadOutside ≡ Some (giving 0)) × (of (operations.LoadArray Byte) (161 ∷ 0 ∷ []) ReadOutside ≡ Some (giving 0))
unfolding of tabled objects customary first_properties after_number
given = (refl, refl, refl, refl, refl, refl, refl)

unprinted : (of (operations.PrintAt addressings.Packed) (5000 ∷ []) TextOutside ≡ Some proceeds) × (of operations.PrintObject (0 ∷ []) AbsentObject ≡ Some proceeds)
unfolding of tabled objects customary
unprinted = (refl, refl)

-- these stay faults
none : (of operations.ShowStatus [] AbsentObject ≡ None) × (of operations.Call (5 ∷ []) UnlistedCall ≡ None) × (of operations.Load (300 ∷ []) BadVariable ≡ None) × (of operations.Load (0 ∷ []) StackUnderflow ≡ None) × (of operations.Print [] TextOutside ≡ None)
unfolding of tabled objects customary
none = (refl, refl, refl, refl, refl)

-- ---- steps

-- `div 7 0` to the first global, `test_attr 0 5` with a branch, `set_window 1`, `pull 16` of an empty stack
code : List ℕ
code = 0x17 ∷ 7 ∷ 0 ∷ 16 ∷ 0x0A ∷ 0 ∷ 5 ∷ 0xC5 ∷ 0xEB ∷ 0x7F ∷ 1 ∷ 0xE9 ∷ 0x7F ∷ 16 ∷ []

memory : List ℕ
memory = replicate 7 0 ++ 70 ∷ replicate 5 0 ++ 64 ∷ replicate 50 0 ++ 0x01 ∷ 0x02 ∷ 0 ∷ 0 ∷ 0 ∷ 0 ∷ code

story : LoadedStory
story = record { memory = memory; objects = 0 }

setting : Setting
setting = record { story = story; scope = scope_all story; limit = most_limit }

at : ℕ → State
at p = at_place (pos p) (opening story)

-- the first global is 0 then
after : ℕ → State
after p = record (at p) { memory = slice_set (slice_set memory 64 0) 65 0 }

-- each is a fault by the definition
faults : (step setting (at 70) ≡ Err (halts.Fault ZeroDivisor)) × (step setting (at 74) ≡ Err (halts.Fault AbsentObject)) × (step setting (at 78) ≡ Err (halts.Fault IllegalOpcode)) × (step setting (at 81) ≡ Err (halts.Fault StackUnderflow))
unfolding step plan fetch effect_of operation_of in_turn read_operand read_variable instruction_at head_at long_head variable_head checked_head operand_at operands_at store_if branch_at branch_if text_if setting at story memory code
faults = (refl, refl, refl, refl)

answered : (lenient_step setting (at 70) ≡ Ok (record { state = after 74; items = [] })) × (lenient_step setting (at 74) ≡ Ok (record { state = at 78; items = [] })) × (lenient_step setting (at 78) ≡ Ok (record { state = at 81; items = [] })) × (lenient_step setting (at 81) ≡ Err (halts.Fault StackUnderflow))
unfolding step plan fetch effect_of operation_of in_turn read_operand read_variable instruction_at head_at long_head variable_head checked_head operand_at operands_at store_if branch_at branch_if text_if setting at story memory code instead plan_instead lenient_fetch passed_at customary act changed admits pauses put put_named after
answered = (refl, refl, refl, refl)

-- ---- play

played : lenient_run setting [] 9 opened (at 70) ≡ record { ending = record { stop = stops.Fault StackUnderflow (pos 81); state = after 81; items = [] }; notes = record { fault = ZeroDivisor; place = pos 70 } ∷ record { fault = AbsentObject; place = pos 74 } ∷ record { fault = IllegalOpcode; place = pos 78 } ∷ [] }
unfolding lenient_run lenient_until step plan fetch effect_of operation_of in_turn read_operand read_variable instruction_at head_at long_head variable_head checked_head operand_at operands_at store_if branch_at branch_if text_if setting at story memory code instead plan_instead lenient_fetch passed_at customary act changed admits pauses put put_named after
played = refl

-- and within its budget
spent : (lenient_run setting [] 2 opened (at 70)).ending.stop ≡ stops.Paused Budget
unfolding lenient_run lenient_until step plan fetch effect_of operation_of in_turn read_operand read_variable instruction_at head_at long_head variable_head checked_head operand_at operands_at store_if branch_at branch_if text_if setting at story memory code instead plan_instead lenient_fetch passed_at customary act changed admits pauses put put_named
spent = refl
