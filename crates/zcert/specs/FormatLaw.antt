-- What a format owes: what is read is spelled so, and what has a spelling is read again. The modules below are the proof that
-- intervals and lists meet it, and nothing to believe.
pub mod Stepping
pub mod Widths
pub mod Intervals
pub mod Steady
pub mod Words
pub mod Sets
pub mod Kept
use Rattle.std.specs.Prelude.{◌≡◌, ◌≢◌, ℕ, ◌<◌, List, [], ◌++◌, length, Result, Ok, Err}
use Rattle.std.proofs.Common.{get_or}
use Rattle.zcert.specs.declared.error.CertError.{CertError}
use Rattle.zcert.specs.declared.error.CertError.TheVariants.{Truncated, OutOfMemory}
use Rattle.zcert.specs.Numbers.{Version, HasRoom}
use Rattle.zcert.specs.Steps.{◌>>=◌}
use Rattle.zcert.specs.Format.{Format}
use Rattle.zcert.specs.declared.limits.TheConstants.{LIMIT_VERSION, MARK_VERSION, FACT_VERSION}

abbrev pub IsBytes : List ℕ → Type 0
IsBytes bytes = (i : ℕ) → get_or bytes i 0 < 256

-- what a step took from the front
pub record Takes (bytes text rest : List ℕ) : Type 0 where
  pub parts : bytes ≡ text ++ rest
  pub rest_fits : IsBytes rest

-- reading wanted no memory
abbrev pub IsPlain : {A : Type 0} → Result A CertError → Type 0
IsPlain r = r ≢ Err OutOfMemory

pub record IsFormat {V : Type 0} (format : Format V) : Type 0 where
  -- its version has room, and is none of those in which limits are named
  pub version : HasRoom Version format.version
  pub apart : format.version ≢ LIMIT_VERSION
  pub unmarked : format.version ≢ MARK_VERSION
  pub unstated : format.version ≢ FACT_VERSION
  -- a set that is read is spelled by the bytes that it took
  pub takes : (bytes : List ℕ) (v : V) (rest : List ℕ) → IsBytes bytes → format.value_at bytes ≡ Ok (v, rest) → Takes bytes (format.spelled v) rest × format.Has v
  -- a spelling has bytes, at least one
  pub bytes : (v : V) → format.Has v → IsBytes (format.spelled v)
  pub long : (v : V) → 0 < length (format.spelled v)
  -- and is read again, whatever follows it
  pub again : (v : V) (rest : List ℕ) → format.Has v → format.value_at (format.spelled v ++ rest) ≡ Ok (v, rest)
  -- a set is cut off where no byte is there, and one that isn't cut off is the same whatever follows
  pub none : format.value_at [] ≡ Err Truncated
  pub stays : (bytes more : List ℕ) → format.value_at bytes ≢ Err Truncated → format.value_at (bytes ++ more) ≡ (format.value_at bytes >>= λ x. Ok (x.0, x.1 ++ more))
  -- reading a set wants no memory
  pub plain : (bytes : List ℕ) → IsPlain (format.value_at bytes)
