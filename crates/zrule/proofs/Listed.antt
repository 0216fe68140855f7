-- What a certificate claims at an address where it lists an instruction.
use Rattle.std.proofs.Common.{◌≡◌, ℕ, zero, suc, ◌≤◌, length, arith, Bool, true, false, List, [], ◌∷◌, Option, Some, None, refl, sym, ◌∙◌, ap, subst}
use Rattle.std.specs.Prelude.{◌==◌, if◌then◌else◌, option_map, MatchOption, IfNone, IfSome}
use Rattle.std.specs.List.{AllByRecursion}
use Rattle.std.proofs.lemmas.Option.{same_Some}
use Rattle.std.proofs.lemmas.Bool.{eqb-true}
use Rattle.zstory.specs.LoadedStory.{LoadedStory}
use Rattle.zdomain.specs.Domain.{SetOperations}
use Rattle.zcert.specs.declared.parts.Routine.{Routine}
use Rattle.zcert.specs.Certificate.{Instruction, Certificate, locals_of}
use Rattle.zcert.specs.Format.{Format}
use Rattle.zcert.specs.Spelling.{IsRoutine, IsInstruction, HasSpelling}
use Rattle.zcert.specs.Listed.{listed_at}
use Rattle.zrule.specs.declared.rule.Rule.{Rule}
use Rattle.zrule.specs.Claims.{Entry, claims_of, entry_of}
use Rattle.zrule.specs.Rules.{Keeps, IsLowestBroken}

-- the instruction stands at the address
pub listed_address : {V : Type 0} (is : List (Instruction V)) (p : ℕ) (i : Instruction V) → listed_at is p ≡ Some i → i.address ≡ p
listed_address [] p i e = absurd cc
listed_address (j ∷ is) p i e = by_test (listed_address is p i) (j.address == p) refl e
  where
    by_test : (listed_at is p ≡ Some i → i.address ≡ p) → (b : Bool) → (j.address == p) ≡ b → (if b then Some j else listed_at is p) ≡ Some i → i.address ≡ p
    by_test rest true h f = subst (λ k. k.address ≡ p) (same_Some j i f) (eqb-true j.address p h)
    by_test rest false h f = rest f

-- what is claimed comes from an instruction that is listed
pub entry_listed : {V : Type 0} (found : Option (Instruction V)) (e : Entry V) → option_map entry_of found ≡ Some e → (i : Instruction V) × (found ≡ Some i) × (entry_of i ≡ e)
entry_listed None e h = absurd cc
entry_listed (Some i) e h = (i, refl, same_Some (entry_of i) e h)

-- what a test of the rules at a listed place tells of an address
module _ {V : Type 0} (o : SetOperations V) (c : Certificate V) (story : LoadedStory) (p : ℕ) (i : Instruction V) (listed : Some i ≡ listed_at c.instructions p) where
  entry_there : (claims_of o c).entry p ≡ Some (entry_of i)
  entry_there = ap (option_map entry_of) (sym listed)

  Told : ℕ → Option Rule → Type 0
  Told q answer = MatchOption answer ((rule : Rule) → Keeps o (claims_of o c) story q (entry_of i) rule) (IsLowestBroken o (claims_of o c) story q (entry_of i))

  told_there : (answer : Option Rule) → Told i.address answer → Told p answer
  told_there answer told = subst (λ (q : ℕ). Told q answer) (listed_address c.instructions p i (sym listed)) told

  kept_there : (answer : Option Rule) → Told p answer → IfNone answer ((e : Entry V) → (claims_of o c).entry p ≡ Some e → (rule : Rule) → Keeps o (claims_of o c) story p e rule)
  unfolding Told
  kept_there None kept = λ e is rule. subst (λ (f : Entry V). Keeps o (claims_of o c) story p f rule) (same_Some (entry_of i) e (sym entry_there ∙ is)) (kept rule)
  kept_there (Some rule) broken = tt

  broken_there : (answer : Option Rule) → Told p answer → IfSome answer (λ rule. (e : Entry V) × ((claims_of o c).entry p ≡ Some e) × IsLowestBroken o (claims_of o c) story p e rule)
  unfolding Told
  broken_there None kept = tt
  broken_there (Some rule) broken = (entry_of i, entry_there, broken)

  pub kept_at : (answer : Option Rule) → MatchOption answer ((rule : Rule) → Keeps o (claims_of o c) story i.address (entry_of i) rule) (IsLowestBroken o (claims_of o c) story i.address (entry_of i)) → IfNone answer ((e : Entry V) → (claims_of o c).entry p ≡ Some e → (rule : Rule) → Keeps o (claims_of o c) story p e rule)
  unfolding Told
  kept_at answer told = kept_there answer (told_there answer told)

  pub broken_at : (answer : Option Rule) → MatchOption answer ((rule : Rule) → Keeps o (claims_of o c) story i.address (entry_of i) rule) (IsLowestBroken o (claims_of o c) story i.address (entry_of i)) → IfSome answer (λ rule. (e : Entry V) × ((claims_of o c).entry p ≡ Some e) × IsLowestBroken o (claims_of o c) story p e rule)
  unfolding Told
  broken_at answer told = broken_there answer (told_there answer told)

-- ---- how much is said of a listed instruction

module _ {V : Type 0} (format : Format V) where
  few_locals : (routines : List (Routine V)) (r : ℕ) → AllByRecursion (IsRoutine format) routines → locals_of routines r ≤ 15
  few_locals routines zero all = omega arith
  few_locals [] (suc r) all = omega arith
  few_locals (x ∷ routines) (suc zero) all = all.0.locals
  few_locals (x ∷ routines) (suc (suc r)) all = few_locals routines (suc r) all.1

  there : (P : Instruction V → Type 0) (is : List (Instruction V)) (p : ℕ) (i : Instruction V) → AllByRecursion P is → listed_at is p ≡ Some i → P i
  there P [] p i all e = absurd cc
  there P (j ∷ is) p i all e = by_test (j.address == p) (there P is p i all.1) e
    where
      by_test : (b : Bool) → (listed_at is p ≡ Some i → P i) → (if b then Some j else listed_at is p) ≡ Some i → P i
      by_test true rest f = subst P (same_Some j i f) all.0
      by_test false rest f = rest f

  -- it has at most 15 locals, and at most 64 slots
  pub few_there : (c : Certificate V) (p : ℕ) (i : Instruction V) → HasSpelling format c → listed_at c.instructions p ≡ Some i → (length i.locals ≤ 15) × (length i.slots ≤ 64)
  few_there c p i spelling listed =
      let one = there (IsInstruction format c.routines) c.instructions p i spelling.instructions listed in
      let few = few_locals c.routines i.routine spelling.routines in
      let count = one.locals in
      let height = one.height in
      (omega (arith, few, count), omega (arith, height))
