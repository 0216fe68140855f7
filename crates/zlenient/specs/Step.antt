-- One step of lenient play: a step by the definition and, where that is a fault, what is customary in its place (own).
use Rattle.std.specs.Prelude.{ℕ, ◌-◌, Bool, false, nat_lt, List, length, drop, Option, Some, None, Result, Ok, Err, ℤ, pos, negsuc, if◌then◌else◌}
use Rattle.zfault.specs.declared.fault.Fault.{Fault}
use Rattle.zfault.specs.declared.fault.Fault.TheVariants.{UnlistedInstruction}
use Rattle.zcode.specs.declared.error.DecodeError.{DecodeError}
use Rattle.zcode.specs.declared.error.DecodeError.TheVariants.{NotInProfile}
use Rattle.zcode.specs.declared.opcode.Opcode.TheVariants.{Nop}
use Rattle.zcode.specs.Instruction.{Instruction}
use Rattle.zcode.specs.Operation.{inputs, operation_of}
use Rattle.zcode.specs.Reading.{◌>>=◌ as ◌>>◌, first_byte, instruction_at, operands_at}
use Rattle.zcode.specs.Spelling.{types_of}
use Rattle.zstate.specs.declared.halt.Halt.{Halt}
use Rattle.zstate.specs.declared.halt.Halt.TheVariants as halts
use Rattle.zstate.specs.InTurn.{◌>>=◌}
use Rattle.zstate.specs.State.{Scope, Setting, State, fault, read_operands}
use Rattle.zstate.specs.Step.{Done, Effect, came, decoded, items_of, settle, step}
use Rattle.zlenient.specs.Customary.{customary, is_excusable}

-- ---- an opcode that the profile leaves out is passed over: split_window, set_window, output_stream, input_stream, sound_effect

-- its bytes, as those of a `nop` that reads the operands (Z 4.3.3, 4.4.3, 14)
unfoldable pub passed_at : List ℕ → Result Instruction DecodeError
passed_at bytes = first_byte bytes >> λ (opcode, rest). (first_byte rest >> λ (types, behind). (operands_at (types_of types) behind >> λ (operands, last). Ok (record { opcode = Nop; operands = operands; store = None; branch = None; size = length bytes - length last })))

-- what was read at the front of some bytes, or what is passed over there
abbrev pub or_passed : List ℕ → Result Instruction DecodeError → Result Instruction Halt
or_passed bytes (Err (NotInProfile opcode)) = decoded (passed_at bytes)
or_passed bytes result = decoded result

unfoldable pub lenient_fetch : Scope → ℤ → List ℕ → Result Instruction Halt
lenient_fetch scope (negsuc n) memory = fault UnlistedInstruction
lenient_fetch scope (pos p) memory = if scope.instructions p then or_passed (drop p memory) (instruction_at (drop p memory)) else fault UnlistedInstruction

-- the place is one of an instruction that may be played
abbrev pub is_listed_at : Scope → ℤ → Bool
is_listed_at scope (pos p) = scope.instructions p
is_listed_at scope (negsuc n) = false

-- ---- what is done in the place of a fault

abbrev pub or_fault : Fault → Option Effect → Result Effect Halt
or_fault f (Some effect) = Ok effect
or_fault f None = fault f

-- the instruction, the effect that is customary in the place of a fault, and the state after its reading
unfoldable pub plan_instead : Setting → Fault → State → Result (Instruction × Effect × State) Halt
plan_instead m f s = do
  i ← lenient_fetch m.scope s.place s.memory
  values ← read_operands m.story (inputs i) s
  effect ← or_fault f (customary m.story (operation_of i.opcode) values.0 values.1 f)
  settled ← settle m.limit i effect values.1
  Ok (i, effect, values.1)

-- a place lies in so much memory
abbrev pub is_within : ℤ → ℕ → Bool
is_within (pos p) n = nat_lt p n
is_within (negsuc k) n = false

-- where a step leads outside memory it stays a fault
abbrev pub or_nowhere : Fault → Done → Result Done Halt
or_nowhere f d = if is_within d.state.place (length d.state.memory) then Ok d else fault f

unfoldable pub instead : Setting → Fault → State → Result Done Halt
instead m f s = plan_instead m f s >>= λ p. or_nowhere f (record { state = came m.story p.0 p.1 p.2 s; items = items_of p.1 })

-- ---- the step

abbrev pub or_instead : (Fault → Result Done Halt) → Result Done Halt → Result Done Halt
or_instead other (Err (halts.Fault f)) = if is_excusable f then other f else fault f
or_instead other result = result

abbrev pub lenient_step : Setting → State → Result Done Halt
lenient_step m s = or_instead (λ f. instead m f s) (step m s)
