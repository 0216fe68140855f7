-- What a call of a device does to its count of failures, to its known bytes, and to what waits to be handed on (own).
use Rattle.std.specs.Prelude.{◌≡◌, ℕ, ◌+◌, ◌-◌, ◌^◌, ◌<◌, min, Bool, true, false, List, [], ◌∷◌, length, take, drop, MatchResult, Result, Option}
use Rattle.std.specs.Io.KnownBytes.{Appends}

-- a count of failures, a u64, goes up by one, and stays at its last value
abbrev pub RisesByOne : ℕ → ℕ → Type 0
RisesByOne old new = new ≡ min (old + 1) (2 ^ 64 - 1)

-- the count rises just at an error, and by one
abbrev pub CountsFailure : {A E : Type 0} → ℕ → ℕ → Result A E → Type 0
CountsFailure old new outcome = MatchResult outcome (λ _. new ≡ old) (λ _. RisesByOne old new)

-- a call that reads changes so many bytes at the front of its buffer, and none at an error
abbrev pub ChangesFront : {E : Type 0} → List ℕ → List ℕ → Result ℕ E → Type 0
ChangesFront old new outcome = MatchResult outcome (λ count. drop count new ≡ drop count old) (λ _. new ≡ old)

-- known bytes grow by a beginning of these
pub record AppendsBeginning (old new : Option (List ℕ)) (bytes : List ℕ) : Type 0 where
  pub taken : ℕ
  pub grown : Appends old new (take taken bytes)

-- whether bytes wait for a flush once these were taken: any byte does, and with none it is as before
abbrev pub waits_after : Bool → List ℕ → Bool
waits_after before [] = before
waits_after before (byte ∷ bytes) = true

-- known bytes grow by these, which wait for a flush if there are any
pub record LeavesWaiting (old new : Option (List ℕ)) (before now : Bool) (bytes : List ℕ) : Type 0 where
  pub grown : Appends old new bytes
  pub waits : now ≡ waits_after before bytes

-- a write broke off before the end of these bytes: known bytes grow by those that were taken, which wait for a flush
pub record BreaksOff (old new : Option (List ℕ)) (before now : Bool) (bytes : List ℕ) : Type 0 where
  pub taken : ℕ
  pub short : taken < length bytes
  pub grown : Appends old new (take taken bytes)
  pub waits : now ≡ waits_after before (take taken bytes)

-- the bytes that a call took wait for a flush, and at an error nothing has changed
abbrev pub LetsWait : {E : Type 0} → Bool → Bool → Result ℕ E → List ℕ → Type 0
LetsWait old new outcome piece = MatchResult outcome (λ count. new ≡ waits_after old (take count piece)) (λ _. new ≡ old)

-- after a flush nothing waits, and at an error what waited still does
abbrev pub HandsOn : {E : Type 0} → Bool → Bool → Result Unit E → Type 0
HandsOn old new outcome = MatchResult outcome (λ _. new ≡ false) (λ _. new ≡ old)
