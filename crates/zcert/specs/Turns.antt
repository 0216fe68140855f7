-- How a set is read number by number: what has come of one that is unfinished, and what is awaited.
use Rattle.std.specs.Prelude.{◌≡◌, ℕ, ◌<◌, List, [], ◌++◌, length, Err}
use Rattle.zcert.specs.declared.error.CertError.TheVariants.{Truncated}
use Rattle.zcert.specs.declared.field.Turn.{Turn}
use Rattle.zcert.specs.declared.field.Turn.TheVariants as turns
use Rattle.zcert.specs.declared.stage.Stage.{Stage}
use Rattle.zcert.specs.declared.stage.Stage.TheVariants as stages
use Rattle.zcert.specs.Numbers.{width}
use Rattle.zcert.specs.Numbers as numbers
use Rattle.zcert.specs.Format.{Format}
use Rattle.zcert.specs.FormatLaw.{IsBytes}

-- of the unfinished sets of a kind
pub record Turns (P : Type 0) : Type 0 where
  -- the bytes of its numbers that have come
  pub came : P → List ℕ
  -- how many bytes its next number takes
  pub awaited : P → ℕ

-- the law: without all bytes of its next number a set is cut off, and what has come are bytes
pub record AreTurns {V P : Type 0} (format : Format V) (sets : Turns P) : Type 0 where
  pub short : (p : P) (bytes : List ℕ) → length bytes < sets.awaited p → format.value_at (sets.came p ++ bytes) ≡ Err Truncated
  pub bytes : (p : P) → IsBytes (sets.came p)

-- the field whose turn it is is a set
abbrev pub IsOfSet : Turn → Type 0
IsOfSet (turns.Global more) = Unit {0}
IsOfSet (turns.RoutineResult more address locals) = Unit {0}
IsOfSet (turns.Value more h left) = Unit {0}
IsOfSet (turns.FactValues more address global) = Unit {0}
IsOfSet _ = ⊥

-- what comes next of the file is a set, or part of one
abbrev pub IsSetNext : Stage → Turn → Type 0
IsSetNext stages.Field turn = IsOfSet turn
IsSetNext _ turn = ⊥

module _ {P : Type 0} (sets : Turns P) where
  -- how many bytes the number takes that comes next of the field whose turn it is; where none comes, one byte is too many
  abbrev pub field_width : Turn → P → ℕ
  field_width turns.Release p = width numbers.Release
  field_width turns.Serial p = 6
  field_width turns.Checksum p = width numbers.Checksum
  field_width turns.LoadedLength p = width numbers.LoadedLength
  field_width turns.FrameLimit p = width numbers.FrameLimit
  field_width turns.RangeCount p = width numbers.RangeCount
  field_width (turns.RangeFirst more) p = width numbers.RangeFirst
  field_width (turns.RangeLast more first) p = width numbers.RangeLast
  field_width (turns.Global more) p = sets.awaited p
  field_width turns.RoutineCount p = width numbers.RoutineCount
  field_width (turns.RoutineAddress more) p = width numbers.RoutineAddress
  field_width (turns.LocalCount more address) p = width numbers.LocalCount
  field_width (turns.RoutineResult more address locals) p = sets.awaited p
  field_width turns.InstructionCount p = width numbers.InstructionCount
  field_width (turns.InstructionAddress more) p = width numbers.InstructionAddress
  field_width (turns.RoutineNumber more address) p = width numbers.RoutineNumber
  field_width (turns.Height more address routine) p = width numbers.Height
  field_width (turns.Value more h left) p = sets.awaited p
  field_width turns.FactCount p = width numbers.FactCount
  field_width (turns.FactAddress more least) p = width numbers.FactAddress
  field_width (turns.FactGlobal more address least) p = width numbers.FactGlobal
  field_width (turns.FactValues more address global) p = sets.awaited p
  field_width turns.Complete p = 1

  -- how many bytes the number takes that comes next
  abbrev pub next_width : Stage → Turn → P → ℕ
  next_width stages.Magic turn p = width numbers.Magic
  next_width stages.Version turn p = width numbers.Version
  next_width stages.Field turn p = field_width turn p

  -- nothing of a set has come, unless one comes next
  abbrev pub IsPartOf : Stage → Turn → P → Type 0
  IsPartOf stage turn p = (IsSetNext stage turn → ⊥) → sets.came p ≡ []

  -- and of the number that comes next not all bytes are kept
  abbrev pub IsAwaiting : Stage → Turn → P → List ℕ → Type 0
  IsAwaiting stage turn p kept = IsPartOf stage turn p × (length kept < next_width stage turn p)
