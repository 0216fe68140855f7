-- Refusals of a certificate's bytes, by the numbers that are shown, and of a builder's fields (own).
use Rattle.std.specs.Prelude.{◌≡◌, ◌≢◌, ℕ, List, [], ◌∷◌, ◌++◌, Ok, Err}
use Rattle.std.specs.List.{flat_map, AllByRecursion}
use Rattle.zcert.specs.declared.edition.Edition.{Edition}
use Rattle.zcert.specs.declared.error.CertError.{CertError}
use Rattle.zcert.specs.declared.error.CertError.TheVariants as errors
use Rattle.zcert.specs.declared.field.Field.{Field}
use Rattle.zcert.specs.declared.field.Turn.TheVariants as turns
use Rattle.zcert.specs.Format.{Format, IsAllowed}
use Rattle.zcert.specs.Spelling.{heading}
use Rattle.zcert.specs.Reading.{reading}
use Rattle.zcert.specs.Building.{Progress, opening, InTurn, taken, all_taken}
use Rattle.zcert.specs.Fields.{field_bytes, IsField}

abbrev pub number_of : CertError → ℕ
number_of errors.Magic = 1
number_of errors.Version = 2
number_of errors.Truncated = 3
number_of errors.Trailing = 4
number_of errors.Order = 5
number_of errors.EmptyInterval = 6
number_of errors.Limit = 7
number_of errors.OutOfMemory = 8
number_of errors.ListForm = 9

-- Builders refuse as readers do.
module _ {V : Type 0} (format : Format V) where
  -- for a field in its turn, as the bytes are refused that spell it and the fields before it, whatever follows
  abbrev pub RefuseInTurn : Type 0
  RefuseInTurn = (edition : Edition) (before : List (Field V)) (f : Field V) (rest : List ℕ) (p : Progress V) (e : CertError) → IsAllowed format edition → AllByRecursion (IsField format) (before ++ f ∷ []) → all_taken (opening edition) before ≡ Ok p → InTurn p.turn f → taken p f ≡ Err e → reading format (heading format edition ++ (flat_map (field_bytes format) (before ++ f ∷ []) ++ rest)) ≡ Err e

  -- for fields that end too early, as the bytes are refused that spell them
  abbrev pub RefuseAtEnd : Type 0
  RefuseAtEnd = (edition : Edition) (fs : List (Field V)) (p : Progress V) → IsAllowed format edition → AllByRecursion (IsField format) fs → all_taken (opening edition) fs ≡ Ok p → p.turn ≢ turns.Complete → reading format (heading format edition ++ flat_map (field_bytes format) fs) ≡ Err errors.Truncated

-- a field out of its turn, which no bytes spell, is out of order
abbrev pub RefuseOutOfTurn : Type 0 → Type 0
RefuseOutOfTurn V = (p : Progress V) (f : Field V) → (InTurn p.turn f → ⊥) → taken p f ≡ Err errors.Order
