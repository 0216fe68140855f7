-- Each routine of a certificate may give some word.
use Rattle.std.proofs.Common.{◌≡◌, ◌⊎◌, inl, inr, ℕ, zero, suc, ◌+◌, ◌<◌, ◌≤◌, List, length, Option, Some, sym, subst, arith}
use Rattle.std.specs.Prelude.{slice_get}
use Rattle.std.proofs.lemmas.Bool.{cases_lt}
use Rattle.std.proofs.lemmas.Option.{slice_get_past}
use Rattle.zcert.specs.declared.parts.Routine.{Routine}
use Rattle.zdomain.specs.Domain.{AreSound, In, SetOperations}
use Rattle.zrule.specs.Claims.{result_of, result_or}
use Rattle.zrule.proofs.Below.{one_more}

module _ {V : Type 0} (o : SetOperations V) where
  -- the routine of an index may
  abbrev pub GivesAt : List (Routine V) → ℕ → Type 0
  GivesAt routines k = (x : ℕ) × In o (result_or o.any (slice_get routines k)) x

  -- so may each of the first so many
  pub record GiveFirst (routines : List (Routine V)) (n : ℕ) : Type 0 where
    pub each : (k : ℕ) → k < n → GivesAt routines k

  pub give_none : (routines : List (Routine V)) → GiveFirst routines 0
  give_none routines = record { each = λ k below. absurd (omega (arith, below)) }

  pub give_more : (routines : List (Routine V)) (k x : ℕ) (r : Routine V) → slice_get routines k ≡ Some r → In o r.result x → GiveFirst routines k → GiveFirst routines (k + 1)
  give_more routines k x r there member first = record {
    each = one_more (GivesAt routines) k first.each (x, subst (λ (found : Option (Routine V)). In o (result_or o.any found) x) (sym there) member);
  }

  -- and the main code, and a routine that isn't there, any word
  pub give_each : AreSound o → (routines : List (Routine V)) (n : ℕ) → length routines ≤ n → GiveFirst routines n → (routine : ℕ) → (x : ℕ) × In o (result_of o.any routines routine) x
  give_each lawful routines n all first zero = (0, lawful.any 0 (omega arith))
  give_each lawful routines n all first (suc r) = by (cases_lt r n)
    where
      by : (r < n) ⊎ (n ≤ r) → GivesAt routines r
      by (inl below) = first.each r below
      by (inr past) = (0, subst (λ (found : Option (Routine V)). In o (result_or o.any found) 0) (sym (slice_get_past routines r (omega (arith, all, past)))) (lawful.any 0 (omega arith)))
