-- A field that isn't cut off is the same whatever follows, and without all bytes of its next number it is cut off.
use Rattle.std.proofs.Common.{◌≡◌, ◌≢◌, ℕ, ◌<◌, List, [], ◌++◌, length, Result, Ok, Err, refl, ap, ◌∙◌, arith}
use Rattle.std.proofs.lemmas.List.{nil_from_length}
use Rattle.zcert.specs.declared.error.CertError.{CertError}
use Rattle.zcert.specs.declared.error.CertError.TheVariants as errors
use Rattle.zcert.specs.declared.field.Field.{Field}
use Rattle.zcert.specs.declared.field.Field.TheVariants as fields
use Rattle.zcert.specs.declared.field.Turn.{Turn}
use Rattle.zcert.specs.declared.field.Turn.TheVariants as turns
use Rattle.zcert.specs.declared.stage.Stage.{Stage}
use Rattle.zcert.specs.declared.stage.Stage.TheVariants as stages
use Rattle.zcert.specs.Format.{Format}
use Rattle.zcert.specs.Steps.{◌>>=◌, sized_at, serial_at}
use Rattle.zcert.specs.Turns.{Turns, AreTurns, IsOfSet, field_width, IsAwaiting}
use Rattle.zcert.specs.Fields.{as_field, field_at}
use Rattle.zcert.specs.Streaming.{FieldIsCut, IsCut}
use Rattle.zcert.specs.FormatLaw.{IsFormat}
use Rattle.zcert.specs.FormatLaw.Widths.{same_whatever, sized_short, sized_width, serial_short, serial_width}

-- what isn't cut off is the same whatever follows
abbrev StaysSo : {X : Type 0} → (List ℕ → Result (X × List ℕ) CertError) → Type 0
StaysSo read = (bytes more : List ℕ) → read bytes ≢ Err errors.Truncated → read (bytes ++ more) ≡ (read bytes >>= λ x. Ok (x.0, x.1 ++ more))

number_stays : (n : ℕ) → StaysSo (sized_at n)
number_stays n = same_whatever n (sized_at n) (sized_width n)

module _ {V : Type 0} (format : Format V) where
  made_same : {X : Type 0} (make : X → Field V) (more : List ℕ) (r : Result (X × List ℕ) CertError) → as_field format make (r >>= λ x. Ok (x.0, x.1 ++ more)) ≡ (as_field format make r >>= λ f. Ok (f.0, f.1 ++ more))
  made_same make more (Ok x) = refl
  made_same make more (Err d) = refl

  -- so is a field, as its number or its set is
  made_stays : {X : Type 0} (make : X → Field V) (read : List ℕ → Result (X × List ℕ) CertError) → StaysSo read → StaysSo (λ bytes. as_field format make (read bytes))
  made_stays make read same bytes more whole = ap (as_field format make) (same bytes more (λ e. whole (ap (as_field format make) e))) ∙ made_same make more (read bytes)

module _ {V : Type 0} (format : Format V) (law : IsFormat format) where
  pub field_stays : (t : Turn) → StaysSo (field_at format t)
  field_stays turns.Release = made_stays format fields.Release (sized_at 2) (number_stays 2)
  field_stays turns.Serial = made_stays format fields.Serial serial_at (same_whatever 6 serial_at serial_width)
  field_stays turns.Checksum = made_stays format fields.Checksum (sized_at 2) (number_stays 2)
  field_stays turns.LoadedLength = made_stays format fields.LoadedLength (sized_at 4) (number_stays 4)
  field_stays turns.FrameLimit = made_stays format fields.FrameLimit (sized_at 2) (number_stays 2)
  field_stays turns.RangeCount = made_stays format fields.RangeCount (sized_at 2) (number_stays 2)
  field_stays (turns.RangeFirst more) = made_stays format fields.RangeFirst (sized_at 2) (number_stays 2)
  field_stays (turns.RangeLast more first) = made_stays format fields.RangeLast (sized_at 2) (number_stays 2)
  field_stays (turns.Global more) = made_stays format fields.Global format.value_at law.stays
  field_stays turns.RoutineCount = made_stays format fields.RoutineCount (sized_at 2) (number_stays 2)
  field_stays (turns.RoutineAddress more) = made_stays format fields.RoutineAddress (sized_at 4) (number_stays 4)
  field_stays (turns.LocalCount more address) = made_stays format fields.LocalCount (sized_at 1) (number_stays 1)
  field_stays (turns.RoutineResult more address locals) = made_stays format fields.RoutineResult format.value_at law.stays
  field_stays turns.InstructionCount = made_stays format fields.InstructionCount (sized_at 4) (number_stays 4)
  field_stays (turns.InstructionAddress more) = made_stays format fields.InstructionAddress (sized_at 4) (number_stays 4)
  field_stays (turns.RoutineNumber more address) = made_stays format fields.RoutineNumber (sized_at 2) (number_stays 2)
  field_stays (turns.Height more address routine) = made_stays format fields.Height (sized_at 1) (number_stays 1)
  field_stays (turns.Value more h left) = made_stays format fields.Value format.value_at law.stays
  field_stays turns.FactCount = made_stays format fields.FactCount (sized_at 4) (number_stays 4)
  field_stays (turns.FactAddress more least) = made_stays format fields.FactAddress (sized_at 4) (number_stays 4)
  field_stays (turns.FactGlobal more address least) = made_stays format fields.FactGlobal (sized_at 1) (number_stays 1)
  field_stays (turns.FactValues more address global) = made_stays format fields.FactValues format.value_at law.stays
  field_stays turns.Complete = λ bytes more whole. refl

module _ {V P : Type 0} (format : Format V) (sets : Turns P) (are : AreTurns format sets) where
  field_awaits : (t : Turn) (p : P) (kept : List ℕ) → ((IsOfSet t → ⊥) → sets.came p ≡ []) → length kept < field_width sets t p → FieldIsCut format t (sets.came p ++ kept)
  field_awaits turns.Release p kept part short = rw (part (λ x. x), sized_short 2 kept short) refl
  field_awaits turns.Serial p kept part short = rw (part (λ x. x), serial_short kept short) refl
  field_awaits turns.Checksum p kept part short = rw (part (λ x. x), sized_short 2 kept short) refl
  field_awaits turns.LoadedLength p kept part short = rw (part (λ x. x), sized_short 4 kept short) refl
  field_awaits turns.FrameLimit p kept part short = rw (part (λ x. x), sized_short 2 kept short) refl
  field_awaits turns.RangeCount p kept part short = rw (part (λ x. x), sized_short 2 kept short) refl
  field_awaits (turns.RangeFirst more) p kept part short = rw (part (λ x. x), sized_short 2 kept short) refl
  field_awaits (turns.RangeLast more first) p kept part short = rw (part (λ x. x), sized_short 2 kept short) refl
  field_awaits (turns.Global more) p kept part short = rw (are.short p kept short) refl
  field_awaits turns.RoutineCount p kept part short = rw (part (λ x. x), sized_short 2 kept short) refl
  field_awaits (turns.RoutineAddress more) p kept part short = rw (part (λ x. x), sized_short 4 kept short) refl
  field_awaits (turns.LocalCount more address) p kept part short = rw (part (λ x. x), sized_short 1 kept short) refl
  field_awaits (turns.RoutineResult more address locals) p kept part short = rw (are.short p kept short) refl
  field_awaits turns.InstructionCount p kept part short = rw (part (λ x. x), sized_short 4 kept short) refl
  field_awaits (turns.InstructionAddress more) p kept part short = rw (part (λ x. x), sized_short 4 kept short) refl
  field_awaits (turns.RoutineNumber more address) p kept part short = rw (part (λ x. x), sized_short 2 kept short) refl
  field_awaits (turns.Height more address routine) p kept part short = rw (part (λ x. x), sized_short 1 kept short) refl
  field_awaits (turns.Value more h left) p kept part short = rw (are.short p kept short) refl
  field_awaits turns.FactCount p kept part short = rw (part (λ x. x), sized_short 4 kept short) refl
  field_awaits (turns.FactAddress more least) p kept part short = rw (part (λ x. x), sized_short 4 kept short) refl
  field_awaits (turns.FactGlobal more address least) p kept part short = rw (part (λ x. x), sized_short 1 kept short) refl
  field_awaits (turns.FactValues more address global) p kept part short = rw (are.short p kept short) refl
  field_awaits turns.Complete p kept part short = rw (part (λ x. x)) (nil_from_length kept (omega (arith, short)))

  -- what has come of what comes next is cut off
  pub awaiting_is_cut : (stage : Stage) (t : Turn) (p : P) (kept : List ℕ) → IsAwaiting sets stage t p kept → IsCut format stage t (sets.came p ++ kept)
  awaiting_is_cut stages.Magic t p kept a = rw (a.0 (λ x. x)) a.1
  awaiting_is_cut stages.Version t p kept a = rw (a.0 (λ x. x)) a.1
  awaiting_is_cut stages.Field t p kept a = field_awaits t p kept a.0 a.1
