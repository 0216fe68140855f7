-- Instructions with two faults each, computed: the one that comes first in a step is the one.
use Rattle.std.proofs.Common.{◌≡◌, ℕ, false, List, [], ◌∷◌, ◌++◌, replicate, Err, pos, refl}
use Rattle.zstory.specs.LoadedStory.{LoadedStory}
use Rattle.zcode.specs.Operation.{operation_of}
use Rattle.zcode.specs.Reading.{instruction_at, head_at, long_head, short_head, variable_head, checked_head, operands_at, operand_at, store_if, branch_if, text_if}
use Rattle.zfault.specs.declared.fault.Fault.{Fault}
use Rattle.zfault.specs.declared.fault.Fault.TheVariants.{UnlistedInstruction, UnlistedCall, StackUnderflow, AbsentLocal, AbsentObject, ZeroDivisor, ReadOutside, BadVariable}
use Rattle.zstate.specs.declared.halt.Halt.TheVariants as halts
use Rattle.zstate.specs.InTurn.{in_turn}
use Rattle.zstate.specs.State.{Scope, scope_all, opening, at_place, read_operand, read_variable, read_named, read_in_place}
use Rattle.zstate.specs.Step.{fetch, effect_of, admits, pauses, plan, step}

-- code at 64, played from there in the first frame, which has no local and nothing on its stack, with no room for a frame more
holding : List ℕ → LoadedStory
holding code = record { memory = replicate 64 0 ++ code; objects = 0 }

Faults : List ℕ → Fault → Type 0
Faults code fault = step (record { story = holding code; scope = scope_all (holding code); limit = 0 }) (at_place (pos 64) (opening (holding code))) ≡ Err (halts.Fault fault)

-- a place that isn't listed, where there is no opcode either
unlisted : step (record { story = holding (0xBE ∷ []); scope = record { instructions = λ p. false; routines = λ p. false }; limit = 0 }) (at_place (pos 64) (opening (holding (0xBE ∷ [])))) ≡ Err (halts.Fault UnlistedInstruction)
unfolding step plan fetch holding
unlisted = refl

-- `div`: an operand that isn't there before a divisor of 0, also where the next operand is an absent local; and that before an absent local for the result
divided : Faults (0x57 ∷ 0x00 ∷ 0x00 ∷ 0x05 ∷ []) StackUnderflow × Faults (0x57 ∷ 0x01 ∷ 0x00 ∷ 0x00 ∷ []) AbsentLocal × Faults (0x77 ∷ 0x00 ∷ 0x01 ∷ 0x05 ∷ []) StackUnderflow × Faults (0x17 ∷ 0x01 ∷ 0x00 ∷ 0x05 ∷ []) ZeroDivisor
unfolding Faults holding step plan fetch in_turn read_operand read_variable read_named effect_of operation_of instruction_at head_at long_head checked_head operands_at operand_at store_if branch_if text_if
divided = (refl, refl, refl, refl)

-- an absent object, bytes outside memory, and what is no variable, each before an absent local for the result
kept_from : Faults (0x93 ∷ 0x09 ∷ 0x05 ∷ []) AbsentObject × Faults (0xCF ∷ 0x0F ∷ 0xFF ∷ 0xFF ∷ 0x00 ∷ 0x00 ∷ 0x05 ∷ []) ReadOutside × Faults (0x8E ∷ 0x01 ∷ 0x00 ∷ 0x05 ∷ []) BadVariable
unfolding Faults holding step plan fetch in_turn read_operand read_variable read_in_place effect_of operation_of instruction_at head_at short_head variable_head checked_head operands_at operand_at store_if branch_if text_if
kept_from = (refl, refl, refl)

-- `call`: a routine that isn't there, before an absent local for the result, and that before the limit of frames
uncalled : Faults (0xE0 ∷ 0x3F ∷ 0x7F ∷ 0xFF ∷ 0x05 ∷ []) UnlistedCall × Faults (0xE0 ∷ 0x3F ∷ 0x00 ∷ 0x23 ∷ 0x05 ∷ 0x00 ∷ 0x00 ∷ 0xB0 ∷ []) AbsentLocal
unfolding Faults holding step plan fetch in_turn read_operand effect_of admits operation_of instruction_at head_at variable_head checked_head operands_at operand_at store_if branch_if text_if
uncalled = (refl, refl)
