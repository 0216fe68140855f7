-- What a file that is known gives (own).
use Rattle.std.specs.Prelude.{◌≡◌, ◌≢◌, ℕ, ◌-◌, ◌<◌, ◌≤◌, List, length, take, drop, Option, Some, None, IfSome, MatchOption, ⊤}
use Rattle.zfault.specs.Devices.{RisesByOne}

-- so many bytes of the file, from a place on, were put to the front of the buffer: none only at the end of the file
pub record GivesPart (file : List ℕ) (from count : ℕ) (buffer : List ℕ) : Type 0 where
  pub within : count ≤ length file - from
  pub read : take count buffer ≡ take count (drop from file)
  pub ends : count ≡ 0 → 0 < length buffer → length file ≤ from

-- the same, where the file is known
abbrev pub ReadsPart : Option (List ℕ) → ℕ → ℕ → List ℕ → Type 0
ReadsPart None from count buffer = ⊤
ReadsPart (Some file) from count buffer = GivesPart file from count buffer

-- the count of failures rises just where a call of the files has no answer, and by one
abbrev pub CountsNone : {A : Type 0} → ℕ → ℕ → Option A → Type 0
CountsNone old new answer = MatchOption answer (RisesByOne old new) (λ _. new ≡ old)

-- these bytes are the first of the file
abbrev pub IsBeginning : List ℕ → List ℕ → Type 0
IsBeginning part file = part ≡ take (length part) file

-- no file but the one of this name has other bytes than before
abbrev pub SparesOthers : List ℕ → (List ℕ → Option (List ℕ)) → (List ℕ → Option (List ℕ)) → Type 0
SparesOthers name held holds = (other : List ℕ) → other ≢ name → holds other ≡ held other

-- there is a byte in the file of a name, where its bytes are known
abbrev pub HasBytes : Option (List ℕ) → Type 0
HasBytes known = IfSome known (λ file. 0 < length file)
