-- The addresses of routines: twice a number of 16 bits, in rising order.
use Rattle.std.proofs.Common.{inl, inr, ◌≡◌, ℕ, zero, suc, ◌+◌, ◌*◌, ◌<◌, ◌≤◌, true, false, List, [], ◌∷◌, ◌++◌, length, slice_index, ◌↔◌, refl, sym, ap, subst, ◌∙◌, arith, nat_lt, cond, Some, None}
use Rattle.std.specs.Prelude.{All}
use Rattle.std.specs.List.{Contains}
use Rattle.std.specs.List.Sorted.{IsStrictlyIncreasing}
use Rattle.std.proofs.lemmas.Bool.{ltb-true, ltb-false, false≢true}
use Rattle.std.proofs.lemmas.List.{get_or_append_left, get_or_push, length_push}
use Rattle.std.proofs.lemmas.List.Elements.{All-push, Contains-push, Contains-push_cases, Contains-append_left}
use Rattle.zstory.specs.LoadedStory.{LoadedStory}
use Rattle.zcode.specs.declared.instr.Operand.{Operand}
use Rattle.zcode.specs.declared.instr.Operand.TheVariants.{Constant, Variable}
use Rattle.zcode.specs.declared.opcode.Opcode.{Opcode}
use Rattle.zlist.specs.declared.list_error.ListError.{ListError}
use Rattle.zlist.specs.Listed.{IsCalled, IsFault, callee, calls, routine_named}
use Rattle.zlist.specs.Labels.{AreFound, Found, IsWalked, is_called}
use Rattle.zlist.proofs.Lowest.{called_low}
use Rattle.zlist.proofs.Reached.{called_inside}

named_even : (operands : List Operand) (a : ℕ) → routine_named operands ≡ Some a → (m : ℕ) × (a ≡ 2 * suc m)
named_even [] a e = cc
named_even (Constant zero ∷ rest) a e = cc
named_even (Constant (suc m) ∷ rest) a e = (m, cc)
named_even (Variable v ∷ rest) a e = cc

callee_even : (opcode : Opcode) (operands : List Operand) (a : ℕ) → callee opcode operands ≡ Some a → (m : ℕ) × (a ≡ 2 * suc m)
callee_even opcode operands a e =
    (elim (calls opcode) as (λ b. cond b (routine_named operands) None ≡ Some a → (m : ℕ) × (a ≡ 2 * suc m)) [
      | true ↦ λ g. named_even operands a g
      | false ↦ λ g. cc
    ]) e

-- an address above all others is put behind them
pub rising_push : (xs : List ℕ) (y bound : ℕ) → IsStrictlyIncreasing xs → All (λ a. a < bound) xs → bound ≤ y → IsStrictlyIncreasing (xs ++ y ∷ [])
rising_push xs y bound rising below l k within =
    let count = length_push xs y in
    let here = get_or_append_left xs (y ∷ []) 0 k (omega (arith, within, count)) in
    let under = below k 0 (omega (arith, within, count)) in
    (elim (nat_lt (k + 1) (length xs)) as (λ b. nat_lt (k + 1) (length xs) ≡ b → slice_index (xs ++ y ∷ []) k < slice_index (xs ++ y ∷ []) (k + 1)) [
      | true ↦ λ e.
          let low = ltb-true (k + 1) (length xs) e in
          omega (arith, here, get_or_append_left xs (y ∷ []) 0 (k + 1) low, rising k low)
      | false ↦ λ e. omega (arith, here, under, l, get_or_push xs y 0 (k + 1) (omega (arith, within, count, ltb-false (k + 1) (length xs) e)))
    ]) refl

-- ---- those found so far

module _ (story : LoadedStory) (found : Found) where
  pub found_none : AreFound story found 1 []
  found_none = record {
    rising = λ k l. absurd (omega (arith, l));
    below = λ k d l. absurd (omega (arith, l));
    few = omega arith;
    has = λ m l h. absurd (omega (arith, l));
    only = λ a (k, l, e). absurd (omega (arith, l));
  }

  pub found_not : (packed : ℕ) (xs : List ℕ) → AreFound story found packed xs → is_called found (2 * packed) ≡ false → AreFound story found (packed + 1) xs
  found_not packed xs it out = record {
    rising = it.rising;
    below = λ k d l. omega (arith, it.below k d l);
    few = omega (arith, it.few);
    has = λ m l h. (elim (nat_lt (suc m) packed) as (λ b. nat_lt (suc m) packed ≡ b → Contains xs (2 * suc m)) [
      | true ↦ λ e. it.has m (ltb-true (suc m) packed e) h
      | false ↦ λ e. absurd (false≢true (sym out ∙ ap (λ (n : ℕ). is_called found (2 * n)) (omega (arith, l, ltb-false (suc m) packed e)) ∙ h))
    ]) refl;
    only = it.only;
  }

  pub found_more : (packed : ℕ) (xs : List ℕ) → IsWalked story found → AreFound story found packed xs → is_called found (2 * packed) ≡ true → AreFound story found (packed + 1) (xs ++ 2 * packed ∷ [])
  found_more packed xs walked it called = record {
    rising = rising_push xs (2 * packed) (2 * packed) it.rising it.below (omega arith);
    below = All-push (λ a. a < 2 * (packed + 1)) xs (2 * packed) (λ k d l. omega (arith, it.below k d l)) (omega arith);
    few = omega (arith, it.few, length_push xs (2 * packed));
    has = λ m l h. (elim (nat_lt (suc m) packed) as (λ b. nat_lt (suc m) packed ≡ b → Contains (xs ++ 2 * packed ∷ []) (2 * suc m)) [
      | true ↦ λ e. Contains-append_left xs (2 * packed ∷ []) (2 * suc m) (it.has m (ltb-true (suc m) packed e) h)
      | false ↦ λ e. subst (λ (n : ℕ). Contains (xs ++ 2 * packed ∷ []) (2 * n)) (omega (arith, l, ltb-false (suc m) packed e)) (Contains-push xs (2 * packed))
    ]) refl;
    only = λ a h. elim (Contains-push_cases xs (2 * packed) a h) [
      | inl old ↦ it.only a old
      | inr is ↦ walked.way.sound.called a (ap (λ (n : ℕ). is_called found n) (sym is) ∙ called)
    ];
  }

  pub found_all : (xs : List ℕ) (packed : ℕ) → IsWalked story found → ((f : ListError) → IsFault story f → ⊥) → length story.memory ≤ 2 * packed → AreFound story found packed xs → (a : ℕ) → Contains xs a ↔ IsCalled story a
  found_all xs packed walked none all it a = (
    it.only a,
    λ call.
        let even = callee_even call.1.opcode call.1.operands a call.4 in
        let low = called_low story none a call in
        subst (λ (n : ℕ). Contains xs n) (sym even.1) (it.has even.0 (omega (arith, low, all, even.1)) (ap (λ (n : ℕ). is_called found n) (sym even.1) ∙ called_inside story found walked a low call)),
  )
