-- Sets of globals in whose place others are.
use Rattle.std.proofs.Common.{◌≡◌, ℕ, ◌-◌, ◌<◌, ◌≤◌, Bool, true, false, List, [], ◌∷◌, length, drop, take, take_all, Option, Some, None, refl, arith, nat_lt, slice_set, if◌then◌else◌}
use Rattle.std.specs.Prelude.{slice_get, slice_index_or}
use Rattle.zcert.specs.declared.parts.Fact.{Fact}
use Rattle.zflow.specs.declared.parts.Outcome.{Outcome}
use Rattle.zflow.specs.Transfer.{globals_after, globals_named, globals_with, with_facts}
use Rattle.zflow.specs.Lent.{put}
use Rattle.zflow.proofs.Changes.{put_keeps_none}

-- where no global is, nothing puts one
module _ {V : Type 0} where
  pub facts_keep_none : (globals : List V) (facts : List (Fact V)) (k : ℕ) → slice_get globals k ≡ None → slice_get (with_facts globals facts) k ≡ None
  facts_keep_none globals [] k none = none
  facts_keep_none globals (f ∷ fs) k none = facts_keep_none (slice_set globals f.global f.values) fs k (put_keeps_none (Some (f.global, f.values)) globals k none)

  given_keeps_none : (set : Option V) (v : ℕ) (globals : List V) (k : ℕ) → slice_get globals k ≡ None → slice_get (globals_with set v globals) k ≡ None
  given_keeps_none None v globals k none = none
  given_keeps_none (Some x) v globals k none = by_test (nat_lt v 16)
    where
      by_test : (c : Bool) → slice_get (if c then globals else slice_set globals (v - 16) x) k ≡ None
      by_test true = none
      by_test false = put_keeps_none (Some (v - 16, x)) globals k none

  named_keeps_none : (change : Option (ℕ × V)) (globals : List V) (k : ℕ) → slice_get globals k ≡ None → slice_get (globals_named change globals) k ≡ None
  named_keeps_none None globals k none = none
  named_keeps_none (Some p) globals k none = given_keeps_none (Some p.1) p.0 globals k none

  pub behind_keeps_none : (globals : List V) (target : ℕ) (w : Outcome V) (k : ℕ) → slice_get globals k ≡ None → slice_get (globals_after globals target w) k ≡ None
  behind_keeps_none globals target w k none =
      named_keeps_none w.kept.second_global _ k (named_keeps_none w.kept.first_global _ k (given_keeps_none w.gives target _ k (named_keeps_none w.assigns globals k none)))

-- facts, from the first on
module _ {V : Type 0} where
  pub no_facts : (facts : List (Fact V)) (globals : List V) → length facts < 1 → with_facts globals facts ≡ globals
  no_facts [] globals few = refl
  no_facts (f ∷ fs) globals few = absurd (omega (arith, few))

  pub first_fact : (facts : List (Fact V)) (f : Fact V) (globals : List V) → 1 ≤ length facts → f ≡ slice_index_or facts 0 f → with_facts globals facts ≡ with_facts (put (Some (f.global, f.values)) globals) (take (length facts - 1) (drop 1 facts))
  first_fact [] f globals more first = absurd (omega (arith, more))
  first_fact (z ∷ fs) f globals more first =
      let rest : take (length (z ∷ fs) - 1) fs ≡ fs = take_all (length (z ∷ fs) - 1) fs (omega arith) in
      rw (first, rest) refl
