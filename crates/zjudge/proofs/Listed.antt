-- What is listed has a low stack.
use Rattle.std.proofs.Common.{◌≡◌, ℕ, ◌≤◌, Bool, true, false, if◌then◌else◌, List, [], ◌∷◌, length, Some, subst}
use Rattle.std.specs.Prelude.{◌==◌}
use Rattle.std.specs.List.{AllByRecursion}
use Rattle.std.proofs.lemmas.Option.{same_Some}
use Rattle.zcert.specs.Certificate.{Certificate, Instruction}
use Rattle.zcert.specs.Format.{Format}
use Rattle.zcert.specs.Listed.{listed_at}
use Rattle.zcert.specs.Spelling.{HasSpelling, IsInstruction}
use Rattle.zcert.specs.declared.parts.Routine.{Routine}

module _ {V : Type 0} (format : Format V) where
  low_in : (routines : List (Routine V)) (is : List (Instruction V)) (address : ℕ) (i : Instruction V) → AllByRecursion (IsInstruction format routines) is → listed_at is address ≡ Some i → length i.slots ≤ 64
  low_in routines [] address i each e = absurd cc
  low_in routines (j ∷ is) address i each e = by (j.address == address) (low_in routines is address i each.1) each.0 e
    where
      by : (b : Bool) → (listed_at is address ≡ Some i → length i.slots ≤ 64) → IsInstruction format routines j → (if b then Some j else listed_at is address) ≡ Some i → length i.slots ≤ 64
      by true rest here found = subst (λ (k : Instruction V). length k.slots ≤ 64) (same_Some j i found) here.height
      by false rest here found = rest found

  pub listed_low : (c : Certificate V) (address : ℕ) (i : Instruction V) → HasSpelling format c → listed_at c.instructions address ≡ Some i → length i.slots ≤ 64
  listed_low c address i has e = low_in c.routines c.instructions address i has.instructions e
