-- A whole run with a call, computed from its bytes.
use Rattle.std.proofs.Common.{◌≡◌, ℕ, List, [], ◌∷◌, ◌++◌, replicate, Ok, Err, pos, refl}
use Rattle.std.specs.Fmt.{digits}
use Rattle.zstory.specs.LoadedStory.{LoadedStory}
use Rattle.zcode.specs.Operation.{operation_of}
use Rattle.zcode.specs.Reading.{instruction_at, head_at, short_head, variable_head, checked_head, operands_at, operand_at, store_if, branch_if, branch_at, text_if}
use Rattle.zfault.specs.declared.pause.Pause.TheVariants as pauses
use Rattle.zfault.specs.declared.item.Item.TheVariants.{Text}
use Rattle.zstate.specs.declared.halt.Halt.TheVariants as halts
use Rattle.zstate.specs.declared.halt.Stop.TheVariants as stops
use Rattle.zstate.specs.InTurn.{in_turn}
use Rattle.zstate.specs.State.{State, Setting, most_limit, scope_all, first_frame, opening, at_place, with_stack, put, put_named, read_named, read_operand, read_variable}
use Rattle.zstate.specs.Step.{words_from, laid_over, fetch, effect_of, admits, pauses as must_pause, plan, changed, act, step}
use Rattle.zstate.specs.Run.{until, run}

-- at 70 `call` of 80 for the stack, at 75 `print_num` of the stack, at 78 `quit`; at 80 a routine with one local, which begins as 0,
-- and at 83 its `jz` of that local, which returns 1
code : List ℕ
code = 0xE0 ∷ 0x3F ∷ 0x00 ∷ 0x28 ∷ 0x00 ∷ 0xE6 ∷ 0xBF ∷ 0x00 ∷ 0xBA ∷ 0x00 ∷ 0x01 ∷ 0x00 ∷ 0x00 ∷ 0xA0 ∷ 0x01 ∷ 0xC1 ∷ []

memory : List ℕ
memory = replicate 7 0 ++ 70 ∷ replicate 5 0 ++ 64 ∷ replicate 56 0 ++ code

story : LoadedStory
story = record { memory = memory; objects = 0 }

setting : Setting
setting = record { story = story; scope = scope_all story; limit = most_limit }

-- with the routine's frame above the first
inside : State
inside = record (opening story) { frame = record { return_place = 75; result = 0; supplied = 0; locals = 0 ∷ []; stack = [] }; callers = first_frame ∷ []; place = pos 83 }

called : step setting (opening story) ≡ Ok (record { state = inside; items = [] })
unfolding step plan act changed fetch effect_of operation_of admits must_pause in_turn read_operand instruction_at head_at variable_head checked_head operands_at operand_at store_if branch_if text_if words_from laid_over setting story memory code inside
called = refl

returned : step setting inside ≡ Ok (record { state = at_place (pos 75) (with_stack (1 ∷ []) (opening story)); items = [] })
unfolding step plan act changed fetch effect_of operation_of admits must_pause in_turn read_operand read_variable read_named instruction_at head_at short_head checked_head operands_at operand_at store_if branch_if branch_at text_if put put_named setting story memory code inside
returned = refl

printed : step setting (at_place (pos 75) (with_stack (1 ∷ []) (opening story))) ≡ Ok (record { state = at_place (pos 78) (opening story); items = Text 49 ∷ [] })
unfolding digits step plan act changed fetch effect_of operation_of admits must_pause in_turn read_operand read_variable instruction_at head_at variable_head checked_head operands_at operand_at store_if branch_if text_if setting story memory code
printed = refl

ends : step setting (at_place (pos 78) (opening story)) ≡ Err halts.Quit
unfolding step plan fetch effect_of operation_of admits must_pause in_turn instruction_at head_at short_head checked_head operands_at store_if branch_if text_if setting story memory code
ends = refl

-- the call, the return and the number are three steps
runs : (run setting [] 1 (opening story) ≡ record { stop = stops.Paused pauses.Budget; state = inside; items = [] })
    × (run setting [] 9 (opening story) ≡ record { stop = stops.Paused pauses.Quit; state = at_place (pos 78) (opening story); items = Text 49 ∷ [] })
unfolding run until inside
runs = (rw (called, returned) refl, rw (called, returned, printed, ends) refl)
