-- The sets of arguments, by how many operands there are.
use Rattle.std.proofs.Common.{◌≡◌, ◌≤◌, ◌<◌, ◌-◌, ◌+◌, ℕ, zero, suc, List, Some, None, refl, ap, length, arith}
use Rattle.std.specs.Prelude.{slice_get}
use Rattle.zcode.specs.declared.instr.Operand.{Operand}
use Rattle.zdomain.specs.Domain.{SetOperations}
use Rattle.zstate.specs.Step.{arguments}
use Rattle.zflow.specs.Transfer.{Shape, operand_set, sets}

-- an argument stands behind the address
counted : {V : Type 0} (arg : ℕ → V) (n k : ℕ) → n ≤ 4 → k < n - 1 → Some (arg (k + 1)) ≡ slice_get (arguments (sets arg n)) k
unfolding sets
counted arg zero k few there = absurd (omega (arith, there))
counted arg (suc zero) k few there = absurd (omega (arith, there))
counted arg (suc (suc n)) zero few there = refl
counted arg (suc (suc zero)) (suc k) few there = absurd (omega (arith, there))
counted arg (suc (suc (suc n))) (suc zero) few there = refl
counted arg (suc (suc (suc zero))) (suc (suc k)) few there = absurd (omega (arith, there))
counted arg (suc (suc (suc (suc n)))) (suc (suc zero)) few there = refl
counted arg (suc (suc (suc (suc n)))) (suc (suc (suc k))) few there = absurd (omega (arith, few, there))

uncounted : {V : Type 0} (arg : ℕ → V) (n k : ℕ) → n ≤ 4 → n - 1 ≤ k → None ≡ slice_get (arguments (sets arg n)) k
unfolding sets
uncounted arg zero k few past = refl
uncounted arg (suc zero) k few past = refl
uncounted arg (suc (suc n)) zero few past = absurd (omega (arith, past))
uncounted arg (suc (suc zero)) (suc k) few past = refl
uncounted arg (suc (suc (suc n))) (suc zero) few past = absurd (omega (arith, past))
uncounted arg (suc (suc (suc zero))) (suc (suc k)) few past = refl
uncounted arg (suc (suc (suc (suc n)))) (suc (suc zero)) few past = absurd (omega (arith, past))
uncounted arg (suc (suc (suc (suc zero)))) (suc (suc (suc k))) few past = refl
uncounted arg (suc (suc (suc (suc (suc n))))) (suc (suc (suc k))) few past = absurd (omega (arith, few))

module _ {V : Type 0} (o : SetOperations V) (globals : List V) (e : Shape V) (operands seen_operands items : List Operand) (few : length items ≤ 4) (is : items ≡ operands) (seen : seen_operands ≡ items) (count k : ℕ) (count_is : count ≡ length seen_operands - 1) where
  at_most : length operands ≤ 4
  at_most = let n : length items ≡ length operands = ap (λ (l : List Operand). length l) is in omega (arith, few, n)

  counted_as : count ≡ length operands - 1
  counted_as = rw (count_is, seen, is) refl

  pub argument_at : (a : V) → k < count → a ≡ operand_set o globals seen_operands e (k + 1) → Some a ≡ slice_get (arguments (sets (operand_set o globals operands e) (length operands))) k
  argument_at a there a_is = rw (a_is, seen, is) (counted (operand_set o globals operands e) (length operands) k at_most (let c = counted_as in omega (arith, there, c)))

  pub argument_past : count ≤ k → None ≡ slice_get (arguments (sets (operand_set o globals operands e) (length operands))) k
  argument_past past = uncounted (operand_set o globals operands e) (length operands) k at_most (let c = counted_as in omega (arith, past, c))
