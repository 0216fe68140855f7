-- What the records of a file answer.
use Rattle.std.specs.Prelude.{ℕ, ◌+◌, ◌*◌, ◌^◌, nat_lt, List, [], ◌∷◌, Option, None, Some, if◌then◌else◌}
use Rattle.std.specs.Option.{unwrap_or}
use Rattle.std.specs.Ordering.{nat_cmp}
use Rattle.std.specs.Map.{lookup}
use Rattle.std.specs.BTreeMap.{is_at}
use Rattle.std.specs.BTreeMap.Range.{entries_between}
use Rattle.std.specs.declared.ops.Bound.TheVariants.{Included}
use Rattle.zdebug.specs.declared.place.Point.{Point}
use Rattle.zdebug.specs.declared.place.Routine.{Routine}
use Rattle.zdebug.specs.Records.{Table, Found}

-- the name that has a number
abbrev pub name_at : Table → ℕ → Option (List ℕ)
name_at table number = lookup (is_at (nat_cmp number)) table

-- the last of a list
abbrev pub last_of : {A : Type 0} → List A → Option A
last_of [] = None
last_of (x ∷ rest) = Some (unwrap_or (last_of rest) x)

-- the last of the records whose addresses lie from one address to another: that of the greatest address
abbrev pub last_between : {A : Type 0} → ℕ → ℕ → List (ℕ × A) → Option (ℕ × A)
last_between first last records = last_of (entries_between nat_cmp (Included first) (Included last) records)

-- a routine, if the address is one of its bytes
abbrev pub holding : ℕ → Option (ℕ × Routine) → Option (ℕ × Routine)
holding address None = None
holding address (Some r) = if nat_lt address (r.0 + r.1.length) then Some r else None

-- the routine whose bytes hold an address: where none overlap it can only be that of the greatest address not above
abbrev pub routine_in : Found → ℕ → Option (ℕ × Routine)
routine_in f address = holding address (last_between 0 address f.routines)

-- a place in the source
pub record Spot : Type 0 where
  pub file : List ℕ
  pub line : ℕ
  pub routine : List ℕ

abbrev pub spot_of : List ℕ → ℕ → Option (List ℕ) → Option Spot
spot_of routine line None = None
spot_of routine line (Some file) = Some (record { file = file; line = line; routine = routine })

abbrev pub spot_at : Found → List ℕ → Option (ℕ × Point) → Option Spot
spot_at f routine None = None
spot_at f routine (Some p) = spot_of routine p.1.line (name_at f.sources p.1.file)

abbrev pub spot_in : Found → ℕ → Option (ℕ × Routine) → Option Spot
spot_in f address None = None
spot_in f address (Some r) = spot_at f r.1.name (last_between r.0 address f.points)

-- the place of the sequence point of the greatest address, from that of its routine on, that isn't above one
abbrev pub place_in : Found → ℕ → Option Spot
place_in f address = spot_in f address (routine_in f address)

-- the name of a global variable: one after another they take two bytes each
abbrev pub global_from : Option ℕ → Table → ℕ → Option (List ℕ)
global_from None table number = None
global_from (Some first) table number = if nat_lt (first + 2 * number) (2 ^ 32) then name_at table (first + 2 * number) else None

abbrev pub global_in : Found → ℕ → Option (List ℕ)
global_in f number = global_from f.first_global f.globals number
