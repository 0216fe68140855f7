-- What of the bytes that pass a record gets (own).
use Rattle.std.specs.Prelude.{◌≡◌, ℕ, Bool, true, false, List, take, Option, None, Some, Result, MatchResult}
use Rattle.std.specs.Io.KnownBytes.{Appends, Keeps}
use Rattle.zfault.specs.Devices.{AppendsBeginning, RisesByOne}

-- A record that was whole gets these bytes, and is whole; or a beginning of them, and isn't any more. One that wasn't stays as it was.
abbrev pub RecordsBytes : Option (List ℕ) → Option (List ℕ) → Bool → Bool → List ℕ → Type 0
RecordsBytes old new true true bytes = Appends old new bytes
RecordsBytes old new true false bytes = AppendsBeginning old new bytes
RecordsBytes old new false whole bytes = (whole ≡ false) × Keeps old new

-- a call records so many bytes of these as it answers, and none at an error
abbrev pub Records : {E : Type 0} → Option (List ℕ) → Option (List ℕ) → Bool → Bool → Result ℕ E → List ℕ → Type 0
Records old new was whole outcome bytes = MatchResult outcome (λ count. RecordsBytes old new was whole (take count bytes)) (λ _. (whole ≡ was) × Keeps old new)

-- A record ends just where a write of it fails: by the failures of its sink before and now, if it has one, and whether it was whole and is.
abbrev pub EndsByFailure : Option ℕ → Option ℕ → Bool → Bool → Type 0
EndsByFailure (Some old) (Some new) true false = RisesByOne old new
EndsByFailure (Some old) (Some new) was whole = (whole ≡ was) × (new ≡ old)
EndsByFailure None None was whole = whole ≡ was
EndsByFailure old new was whole = ⊥
