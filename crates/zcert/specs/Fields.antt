-- The fields of a certificate as bytes, each by itself, and what they make.
use Rattle.std.specs.Prelude.{◌≡◌, ℕ, ◌<◌, List, [], ◌∷◌, ◌++◌, length, Result, Ok, Err, IsOk}
use Rattle.std.specs.List.{flat_map, AllByRecursion}
use Rattle.zcert.specs.declared.edition.Edition.{Edition}
use Rattle.zcert.specs.declared.error.CertError.{CertError}
use Rattle.zcert.specs.declared.error.CertError.TheVariants as errors
use Rattle.zcert.specs.declared.field.Field.{Field}
use Rattle.zcert.specs.declared.field.Field.TheVariants as fields
use Rattle.zcert.specs.declared.field.Turn.{Turn}
use Rattle.zcert.specs.declared.field.Turn.TheVariants as turns
use Rattle.zcert.specs.Numbers.{number, HasRoom}
use Rattle.zcert.specs.Numbers as numbers
use Rattle.zcert.specs.Certificate.{Certificate, edition_of}
use Rattle.zcert.specs.Steps.{◌>>=◌, number_at, serial_at}
use Rattle.zcert.specs.Format.{Format, IsAllowed}
use Rattle.zcert.specs.Spelling.{heading}
use Rattle.zcert.specs.Building.{Progress, opening, taken, all_taken, Adds}

module _ {V : Type 0} (format : Format V) where
  abbrev pub field_bytes : Field V → List ℕ
  field_bytes (fields.Release n) = number numbers.Release n
  field_bytes (fields.Serial s) = s
  field_bytes (fields.Checksum n) = number numbers.Checksum n
  field_bytes (fields.LoadedLength n) = number numbers.LoadedLength n
  field_bytes (fields.FrameLimit n) = number numbers.FrameLimit n
  field_bytes (fields.RangeCount n) = number numbers.RangeCount n
  field_bytes (fields.RangeFirst n) = number numbers.RangeFirst n
  field_bytes (fields.RangeLast n) = number numbers.RangeLast n
  field_bytes (fields.Global v) = format.spelled v
  field_bytes (fields.RoutineCount n) = number numbers.RoutineCount n
  field_bytes (fields.RoutineAddress n) = number numbers.RoutineAddress n
  field_bytes (fields.LocalCount n) = number numbers.LocalCount n
  field_bytes (fields.RoutineResult v) = format.spelled v
  field_bytes (fields.InstructionCount n) = number numbers.InstructionCount n
  field_bytes (fields.InstructionAddress n) = number numbers.InstructionAddress n
  field_bytes (fields.RoutineNumber n) = number numbers.RoutineNumber n
  field_bytes (fields.Height n) = number numbers.Height n
  field_bytes (fields.Value v) = format.spelled v
  field_bytes (fields.FactCount n) = number numbers.FactCount n
  field_bytes (fields.FactAddress n) = number numbers.FactAddress n
  field_bytes (fields.FactGlobal n) = number numbers.FactGlobal n
  field_bytes (fields.FactValues v) = format.spelled v

  -- its number has room, or its set has a spelling
  abbrev pub IsField : Field V → Type 0
  IsField (fields.Release n) = HasRoom numbers.Release n
  IsField (fields.Serial s) = (length s ≡ 6) × AllByRecursion (λ b. b < 256) s
  IsField (fields.Checksum n) = HasRoom numbers.Checksum n
  IsField (fields.LoadedLength n) = HasRoom numbers.LoadedLength n
  IsField (fields.FrameLimit n) = HasRoom numbers.FrameLimit n
  IsField (fields.RangeCount n) = HasRoom numbers.RangeCount n
  IsField (fields.RangeFirst n) = HasRoom numbers.RangeFirst n
  IsField (fields.RangeLast n) = HasRoom numbers.RangeLast n
  IsField (fields.Global v) = format.Has v
  IsField (fields.RoutineCount n) = HasRoom numbers.RoutineCount n
  IsField (fields.RoutineAddress n) = HasRoom numbers.RoutineAddress n
  IsField (fields.LocalCount n) = HasRoom numbers.LocalCount n
  IsField (fields.RoutineResult v) = format.Has v
  IsField (fields.InstructionCount n) = HasRoom numbers.InstructionCount n
  IsField (fields.InstructionAddress n) = HasRoom numbers.InstructionAddress n
  IsField (fields.RoutineNumber n) = HasRoom numbers.RoutineNumber n
  IsField (fields.Height n) = HasRoom numbers.Height n
  IsField (fields.Value v) = format.Has v
  IsField (fields.FactCount n) = HasRoom numbers.FactCount n
  IsField (fields.FactAddress n) = HasRoom numbers.FactAddress n
  IsField (fields.FactGlobal n) = HasRoom numbers.FactGlobal n
  IsField (fields.FactValues v) = format.Has v

  -- what a step read, as a field
  abbrev pub as_field : {X : Type 0} → (X → Field V) → Result (X × List ℕ) CertError → Result (Field V × List ℕ) CertError
  as_field make read = read >>= λ x. Ok (make x.0, x.1)

  -- the field whose turn it is, at the front of the bytes
  abbrev pub field_at : Turn → List ℕ → Result (Field V × List ℕ) CertError
  field_at turns.Release bytes = as_field fields.Release (number_at numbers.Release bytes)
  field_at turns.Serial bytes = as_field fields.Serial (serial_at bytes)
  field_at turns.Checksum bytes = as_field fields.Checksum (number_at numbers.Checksum bytes)
  field_at turns.LoadedLength bytes = as_field fields.LoadedLength (number_at numbers.LoadedLength bytes)
  field_at turns.FrameLimit bytes = as_field fields.FrameLimit (number_at numbers.FrameLimit bytes)
  field_at turns.RangeCount bytes = as_field fields.RangeCount (number_at numbers.RangeCount bytes)
  field_at (turns.RangeFirst more) bytes = as_field fields.RangeFirst (number_at numbers.RangeFirst bytes)
  field_at (turns.RangeLast more first) bytes = as_field fields.RangeLast (number_at numbers.RangeLast bytes)
  field_at (turns.Global more) bytes = as_field fields.Global (format.value_at bytes)
  field_at turns.RoutineCount bytes = as_field fields.RoutineCount (number_at numbers.RoutineCount bytes)
  field_at (turns.RoutineAddress more) bytes = as_field fields.RoutineAddress (number_at numbers.RoutineAddress bytes)
  field_at (turns.LocalCount more address) bytes = as_field fields.LocalCount (number_at numbers.LocalCount bytes)
  field_at (turns.RoutineResult more address locals) bytes = as_field fields.RoutineResult (format.value_at bytes)
  field_at turns.InstructionCount bytes = as_field fields.InstructionCount (number_at numbers.InstructionCount bytes)
  field_at (turns.InstructionAddress more) bytes = as_field fields.InstructionAddress (number_at numbers.InstructionAddress bytes)
  field_at (turns.RoutineNumber more address) bytes = as_field fields.RoutineNumber (number_at numbers.RoutineNumber bytes)
  field_at (turns.Height more address routine) bytes = as_field fields.Height (number_at numbers.Height bytes)
  field_at (turns.Value more h left) bytes = as_field fields.Value (format.value_at bytes)
  field_at turns.FactCount bytes = as_field fields.FactCount (number_at numbers.FactCount bytes)
  field_at (turns.FactAddress more least) bytes = as_field fields.FactAddress (number_at numbers.FactAddress bytes)
  field_at (turns.FactGlobal more address least) bytes = as_field fields.FactGlobal (number_at numbers.FactGlobal bytes)
  field_at (turns.FactValues more address global) bytes = as_field fields.FactValues (format.value_at bytes)
  field_at turns.Complete bytes = Err errors.Trailing

  -- the next field is read and taken
  abbrev pub next_at : Progress V → List ℕ → Result (Progress V × List ℕ) CertError
  next_at p bytes = do
    f ← field_at p.turn bytes
    q ← taken p f.0
    Ok (q, f.1)

  -- some fields led here from before the first
  abbrev pub IsReached : Progress V → Type 0
  IsReached p = (edition : Edition) × IsAllowed format edition × ((fs : List (Field V)) × AllByRecursion IsField fs × (all_taken (opening edition) fs ≡ Ok p))

  -- these fields, from the first to the last, make the certificate
  pub record Makes (fs : List (Field V)) (c : Certificate V) : Type 0 where
    pub end : Progress V
    pub allowed : IsAllowed format (edition_of c)
    pub each : AllByRecursion IsField fs
    pub led : all_taken (opening (edition_of c)) fs ≡ Ok end
    pub complete : end.turn ≡ turns.Complete
    pub content : end.content ≡ c

  -- the next field can be taken, and adds a part
  pub record NextAdds (p : Progress V) (bytes : List ℕ) : Type 0 where
    pub field : Field V
    pub rest : List ℕ
    pub read : field_at p.turn bytes ≡ Ok (field, rest)
    pub due : IsOk (taken p field)
    pub adds : Adds p field

  -- the bytes begin with the heading and fields that can all be taken, of which the last adds a part
  pub record LeadsToPart (bytes : List ℕ) : Type 0 where
    pub edition : Edition
    pub allowed : IsAllowed format edition
    pub fields : List (Field V)
    pub last : Field V
    pub rest : List ℕ
    pub each : AllByRecursion IsField (fields ++ last ∷ [])
    pub before : Progress V
    pub reached : all_taken (opening edition) fields ≡ Ok before
    pub led : IsOk (all_taken (opening edition) (fields ++ last ∷ []))
    pub adds : Adds before last
    pub spelled : bytes ≡ heading format edition ++ (flat_map field_bytes (fields ++ last ∷ []) ++ rest)
