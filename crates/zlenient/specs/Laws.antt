-- Laws of lenient play.
use Rattle.std.specs.Prelude.{◌≡◌, ◌⊎◌, ℕ, ◌≤◌, true, false, List, [], length, drop, Some, Ok, Err, pos}
use Rattle.zfault.specs.declared.fault.Fault.{Fault}
use Rattle.zcode.specs.declared.error.DecodeError.TheVariants.{NotInProfile}
use Rattle.zcode.specs.declared.opcode.Excluded.{Excluded}
use Rattle.zcode.specs.Instruction.{Instruction}
use Rattle.zcode.specs.Operation.{inputs, operation_of}
use Rattle.zcode.specs.Reading.{instruction_at}
use Rattle.zstory.specs.LoadedStory.{IsSound}
use Rattle.zstate.specs.declared.halt.Halt.TheVariants as halts
use Rattle.zstate.specs.declared.halt.Stop.{Stop}
use Rattle.zstate.specs.declared.halt.Stop.TheVariants as stops
use Rattle.zstate.specs.State.{IsState, Setting, State, read_operands}
use Rattle.zstate.specs.Step.{Done, Effect, came, fetch, items_of, settle, step}
use Rattle.zstate.specs.Run.{Input, run}
use Rattle.zlenient.specs.declared.front.Front.{Front}
use Rattle.zlenient.specs.Customary.{customary, is_excusable}
use Rattle.zlenient.specs.Front.{opened}
use Rattle.zlenient.specs.Step.{is_within, lenient_step, passed_at}
use Rattle.zlenient.specs.Run.{lenient_run}

-- ---- what lenient play has in common with play

-- a step that can be made is the lenient step
abbrev pub StepsStay : Type 0
StepsStay = (m : Setting) (s : State) (d : Done) → step m s ≡ Ok d → lenient_step m s ≡ Ok d

-- no fault stops it
abbrev pub IsPaused : Stop → Type 0
IsPaused (stops.Paused pause) = Unit {0}
IsPaused (stops.Fault fault place) = ⊥

-- a run that no fault stops is lenient play, of which nothing is noted
abbrev pub RunsStay : Type 0
RunsStay = (m : Setting) (inputs : List Input) (n : ℕ) (s : State) → IsPaused (run m inputs n s).stop → lenient_run m inputs n opened s ≡ record { ending = run m inputs n s; notes = [] }

-- ---- what is done where a step is a fault

-- an instruction that is left out of the profile and passed over, as a `nop`
pub record IsPassedOver (s : State) (i : Instruction) : Type 0 where
  pub place : ℕ
  pub place_is : s.place ≡ pos place
  pub opcode : Excluded
  pub left_out : instruction_at (drop place s.memory) ≡ Err (NotInProfile opcode)
  pub passed : passed_at (drop place s.memory) ≡ Ok i

-- what the table has for it is done: of an instruction, or of one that is passed over
pub record IsCustomary (m : Setting) (s : State) (f : Fault) (d : Done) : Type 0 where
  pub instruction : Instruction
  pub fetched : (fetch m.scope s.place s.memory ≡ Ok instruction) ⊎ IsPassedOver s instruction
  pub values : List ℕ
  pub read : State
  pub reads : read_operands m.story (inputs instruction) s ≡ Ok (values, read)
  pub effect : Effect
  pub answer : customary m.story (operation_of instruction.opcode) values read f ≡ Some effect
  pub settled : settle m.limit instruction effect read ≡ Ok tt
  pub done : d ≡ record { state = came m.story instruction effect read s; items = items_of effect }
  pub inside : is_within d.state.place (length d.state.memory) ≡ true

-- a lenient step is the step, or the step is a fault, and what the table has for that is done
abbrev pub AnswersAreOfTheTable : Type 0
AnswersAreOfTheTable = (m : Setting) (s : State) (d : Done) → lenient_step m s ≡ Ok d → (step m s ≡ Ok d) ⊎ ((f : Fault) × (step m s ≡ Err (halts.Fault f)) × IsCustomary m s f d)

-- a fault for which nothing is customary stays one
abbrev pub OthersStay : Type 0
OthersStay = (m : Setting) (s : State) (f : Fault) → step m s ≡ Err (halts.Fault f) → is_excusable f ≡ false → lenient_step m s ≡ Err (halts.Fault f)

-- no more is noted than steps are made
abbrev pub NotesAreFew : Type 0
NotesAreFew = (m : Setting) (inputs : List Input) (n : ℕ) (f : Front) (s : State) → length (lenient_run m inputs n f s).notes ≤ n

-- what holds in every state holds after each lenient step
abbrev pub LenientStepsKeep : Type 0
LenientStepsKeep = (m : Setting) (s : State) (d : Done) → IsSound m.story.memory → IsState m.limit m.story s → lenient_step m s ≡ Ok d → IsState m.limit m.story d.state
