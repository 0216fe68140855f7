-- How a version of the format writes sets of words.
use Rattle.std.specs.Prelude.{◌≡◌, ℕ, Bool, true, false, List, ◌++◌, Option, Some, None, Result, Ok, Err, FitsSigned, ⊤}
use Rattle.std.specs.Int.{w16, cast_signed, cast_unsigned}
use Rattle.zdomain.specs.declared.interval.Interval.{Interval}
use Rattle.zdomain.specs.Interval.{interval_of}
use Rattle.zcert.specs.declared.edition.Edition.{Edition}
use Rattle.zcert.specs.declared.edition.Edition.TheVariants as editions
use Rattle.zcert.specs.declared.error.CertError.{CertError}
use Rattle.zcert.specs.declared.error.CertError.TheVariants.{EmptyInterval}
use Rattle.zcert.specs.declared.limits.TheConstants.{VERSION, LIMIT_VERSION, MARK_VERSION, FACT_VERSION}
use Rattle.zcert.specs.Numbers.{End, number}
use Rattle.zcert.specs.Steps.{◌>>=◌, number_at}

pub record Format (V : Type 0) : Type 1 where
  -- the version byte
  pub version : ℕ
  -- whether certificates of such sets may name a limit of frames, and then mark instructions, and then state facts; each is of a
  -- version of its own
  pub limited : Bool
  -- the bytes of a set
  pub spelled : V → List ℕ
  -- the set at the front of the bytes
  pub value_at : List ℕ → Result (V × List ℕ) CertError
  -- the set has a spelling
  pub Has : V → Type 0

-- the version byte of an edition
abbrev pub version_of : {V : Type 0} → Format V → Edition → ℕ
version_of format editions.Plain = format.version
version_of format editions.Limited = LIMIT_VERSION
version_of format editions.Marking = MARK_VERSION
version_of format editions.Stating = FACT_VERSION

-- there is one for such sets
abbrev pub IsAllowed : {V : Type 0} → Format V → Edition → Type 0
IsAllowed format editions.Plain = ⊤
IsAllowed format editions.Limited = format.limited ≡ true
IsAllowed format editions.Marking = format.limited ≡ true
IsAllowed format editions.Stating = format.limited ≡ true

-- the interval between two ends
abbrev pub nonempty : Option Interval → Result Interval CertError
nonempty None = Err EmptyInterval
nonempty (Some i) = Ok i

-- version 1: an interval is its lower end, and then its upper end
abbrev pub interval_format : Format Interval
interval_format = record {
  version = VERSION;
  limited = false;
  spelled = λ i. number End (cast_unsigned w16 i.lo) ++ number End (cast_unsigned w16 i.hi);
  value_at = λ bytes. do
    lo ← number_at End bytes
    hi ← number_at End lo.1
    i ← nonempty (interval_of (cast_signed w16 lo.0) (cast_signed w16 hi.0))
    Ok (i, hi.1);
  Has = λ i. FitsSigned w16 i.lo × FitsSigned w16 i.hi;
}
