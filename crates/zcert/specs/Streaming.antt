-- A certificate that comes in pieces: how far it has come, by the bytes that were fed so far.
use Rattle.std.specs.Prelude.{◌≡◌, ◌⊎◌, ℕ, ◌<◌, List, [], ◌++◌, length, Option, None, Some, Result, Ok, Err, ⊤}
use Rattle.std.specs.List.{flat_map, AllByRecursion}
use Rattle.zcert.specs.declared.edition.Edition.{Edition}
use Rattle.zcert.specs.declared.edition.Edition.TheVariants as editions
use Rattle.zcert.specs.declared.error.CertError.{CertError}
use Rattle.zcert.specs.declared.error.CertError.TheVariants as errors
use Rattle.zcert.specs.declared.field.Field.{Field}
use Rattle.zcert.specs.declared.field.Turn.{Turn}
use Rattle.zcert.specs.declared.field.Turn.TheVariants as turns
use Rattle.zcert.specs.declared.limits.TheConstants.{MAGIC}
use Rattle.zcert.specs.declared.stage.Stage.{Stage}
use Rattle.zcert.specs.declared.stage.Stage.TheVariants as stages
use Rattle.zcert.specs.Numbers.{number, width}
use Rattle.zcert.specs.Numbers as numbers
use Rattle.zcert.specs.Format.{Format, IsAllowed}
use Rattle.zcert.specs.Spelling.{heading}
use Rattle.zcert.specs.Reading.{reading}
use Rattle.zcert.specs.Building.{Progress, opening, all_taken}
use Rattle.zcert.specs.Fields.{field_bytes, IsField, field_at, next_at, LeadsToPart}
use Rattle.zcert.specs.Turns.{Turns, IsOfSet}

-- what is kept of the bytes that came
pub record Stream (V : Type 0) : Type 0 where
  -- what comes next
  pub stage : Stage
  -- the fields before that, one after another taken
  pub progress : Progress V
  -- all bytes that came of it: it is cut off
  pub kept : List ℕ
  -- why the bytes are refused, once they are
  pub refused : Option CertError

-- before the first byte
abbrev pub unfed : {V : Type 0} → Stream V
unfed = record { stage = stages.Magic; progress = opening editions.Plain; kept = []; refused = None }

module _ {V : Type 0} (format : Format V) where
  -- the bytes of the field whose turn it is are cut off; where none comes, there are none
  abbrev pub FieldIsCut : Turn → List ℕ → Type 0
  FieldIsCut turns.Complete bytes = bytes ≡ []
  FieldIsCut turn bytes = field_at format turn bytes ≡ Err errors.Truncated

  -- the bytes of what comes next are cut off
  abbrev pub IsCut : Stage → Turn → List ℕ → Type 0
  IsCut stages.Magic turn bytes = length bytes < width numbers.Magic
  IsCut stages.Version turn bytes = length bytes < width numbers.Version
  IsCut stages.Field turn bytes = FieldIsCut turn bytes

  -- the bytes are the heading, fields that could all be taken and led here, and the rest
  pub record FieldsLead (p : Progress V) (bytes rest : List ℕ) : Type 0 where
    pub edition : Edition
    pub allowed : IsAllowed format edition
    pub fields : List (Field V)
    pub each : AllByRecursion (IsField format) fields
    pub led : all_taken (opening edition) fields ≡ Ok p
    pub spelled : bytes ≡ heading format edition ++ (flat_map (field_bytes format) fields ++ rest)

  -- the bytes are what comes before this stage, and the rest
  abbrev pub Leads : Stage → Progress V → List ℕ → List ℕ → Type 0
  Leads stages.Magic p bytes rest = (bytes ≡ rest) × (p ≡ opening editions.Plain)
  Leads stages.Version p bytes rest = (bytes ≡ number numbers.Magic MAGIC ++ rest) × (p ≡ opening editions.Plain)
  Leads stages.Field p bytes rest = FieldsLead p bytes rest

  -- what the next number of a field led to: the field is whole and is taken, or it is a set that isn't whole yet
  abbrev pub GoesOn : {P : Type 0} → Turns P → Progress V → P → List ℕ → Progress V → P → Type 0
  GoesOn sets p part number q next =
      ((next_at format p (sets.came part ++ number) ≡ Ok (q, [])) × (sets.came next ≡ []))
      ⊎ ((q ≡ p) × IsOfSet p.turn × (sets.came next ≡ sets.came part ++ number))

  -- whatever follows the bytes, they are refused so
  abbrev pub IsFinal : List ℕ → CertError → Type 0
  IsFinal bytes e = (more : List ℕ) → reading format (bytes ++ more) ≡ Err e

  -- why a stream refuses bytes: what is wrong with them, which isn't that they are cut off, or that memory was wanting for a part
  -- that they have
  abbrev pub IsRefusal : List ℕ → CertError → Type 0
  IsRefusal bytes errors.OutOfMemory = LeadsToPart format bytes
  IsRefusal bytes errors.Truncated = ⊥
  IsRefusal bytes e = IsFinal bytes e

  -- why bytes aren't read as a certificate: what is wrong with them, or that memory was wanting for a part that they have
  abbrev pub IsUnread : List ℕ → CertError → Type 0
  IsUnread bytes errors.OutOfMemory = LeadsToPart format bytes
  IsUnread bytes e = reading format bytes ≡ Err e

  -- a stream that refused its bytes, or that keeps of them what comes next as far as it came
  abbrev pub HasCome : Option CertError → Stream V → List ℕ → Type 0
  HasCome None s fed = Leads s.stage s.progress fed s.kept × IsCut s.stage s.progress.turn s.kept
  HasCome (Some e) s fed = IsRefusal fed e

  -- the stream was fed these bytes
  abbrev pub IsFed : Stream V → List ℕ → Type 0
  IsFed s fed = HasCome s.refused s fed

-- more bytes may make a certificate of what is read so: it is one, or cut off
abbrev pub IsOpen : {A : Type 0} → Result A CertError → Type 0
IsOpen (Ok c) = ⊤
IsOpen (Err e) = e ≡ errors.Truncated
