-- The facts of a certificate are of globals that there are.
use Rattle.std.proofs.Common.{ℕ, Bool, true, false, List, [], ◌∷◌, refl}
use Rattle.std.specs.Prelude.{◌≡◌}
use Rattle.std.specs.List.{AllByRecursion}
use Rattle.zcert.specs.declared.parts.Fact.{Fact}
use Rattle.zcert.specs.Facts.{facts_at, is_at}
use Rattle.zcert.specs.Format.{Format}
use Rattle.zcert.specs.Spelling.{IsFact}
use Rattle.zjudge.specs.Memory.{AreGlobals}

pub are_globals : {V : Type 0} (format : Format V) (facts : List (Fact V)) → AllByRecursion (IsFact format) facts → AreGlobals facts
are_globals format [] each = tt
are_globals format (f ∷ fs) each = (each.0.global, are_globals format fs each.1)

-- so are those at an address
pub globals_at_place : {V : Type 0} (address : ℕ) (facts : List (Fact V)) → AreGlobals facts → AreGlobals (facts_at facts address)
globals_at_place address [] small = tt
globals_at_place {V} address (f ∷ fs) small = by (is_at address f) refl (globals_at_place address fs small.1)
  where
    by : (b : Bool) → is_at address f ≡ b → AreGlobals (facts_at fs address) → AreGlobals (facts_at (f ∷ fs) address)
    by true e rest = rw e (small.0, rest)
    by false e rest = rw e rest
