-- What is read after the head is spelled.
use Rattle.std.proofs.Common.{◌≡◌, ℕ, ◌+◌, ◌*◌, ◌/◌, ◌%◌, ◌<◌, Bool, true, false, nat_eq, nat_lt, List, [], ◌∷◌, ◌++◌, Ok, Err, Option, Some, None, refl, sym, ap, subst, ◌∙◌, append_assoc, arith, inl, inr}
use Rattle.std.proofs.lemmas.Bool.{ltb-true, ltb-false, eqb-true, eqb-false}
use Rattle.std.specs.Option.{option_to_list}
use Rattle.std.specs.Prelude.{is_some}
use Rattle.ztext.specs.Words.{IsText, after_text}
use Rattle.zcode.specs.declared.error.DecodeError.TheVariants as faults
use Rattle.zcode.specs.declared.types.OperandType.{OperandType}
use Rattle.zcode.specs.declared.types.OperandType.TheVariants.{Large, Small, Variable}
use Rattle.zcode.specs.declared.instr.Operand.{Operand}
use Rattle.zcode.specs.declared.instr.Branch.{Branch}
use Rattle.zcode.specs.Spelling.{SpellsOperand, SpellsOperands, SpellsBranch, SpellsBranchIf, SpellsTextIf, signed_14}
use Rattle.zcode.specs.Reading.{◌>>=◌, first_byte, operand_at, operands_at, store_if, branch_at, branch_if, text_if}
use Rattle.zcode.proofs.Steps.{bind_ok, done, ok_is, done_both, both, chosen, some_is}

pub found_operand : (t : OperandType) (bytes : List ℕ) (o : Operand) (rest : List ℕ) → operand_at t bytes ≡ Ok (o, rest) → (front : List ℕ) × (bytes ≡ front ++ rest) × SpellsOperand t front o
unfolding operand_at
found_operand Large [] o rest e = absurd cc
found_operand Large (h ∷ []) o rest e = absurd cc
found_operand Large (h ∷ l ∷ bytes) o rest e = let p = both _ _ _ _ e in (h ∷ l ∷ [], ap (λ (xs : List ℕ). h ∷ l ∷ xs) p.1, (h, l, refl, sym p.0))
found_operand Small [] o rest e = absurd cc
found_operand Small (b ∷ bytes) o rest e = let p = both _ _ _ _ e in (b ∷ [], ap (λ (xs : List ℕ). b ∷ xs) p.1, (b, refl, sym p.0))
found_operand Variable [] o rest e = absurd cc
found_operand Variable (b ∷ bytes) o rest e = let p = both _ _ _ _ e in (b ∷ [], ap (λ (xs : List ℕ). b ∷ xs) p.1, (b, refl, sym p.0))

pub found_operands : (ts : List OperandType) (bytes : List ℕ) (os : List Operand) (rest : List ℕ) → operands_at ts bytes ≡ Ok (os, rest) → (front : List ℕ) × (bytes ≡ front ++ rest) × SpellsOperands ts front os
unfolding operands_at
found_operands [] bytes os rest e = let p = both _ _ _ _ e in ([], p.1, (refl, sym p.0))
found_operands (t ∷ ts) bytes os rest e =
    let a = bind_ok (operand_at t bytes) _ _ e in
    let b = bind_ok (operands_at ts a.0.1) _ _ a.2 in
    let p = found_operand t bytes a.0.0 a.0.1 a.1 in
    let q = found_operands ts a.0.1 b.0.0 b.0.1 b.1 in
    let r = both _ _ _ _ b.2 in
    (p.0 ++ q.0, p.1 ∙ ap (λ (xs : List ℕ). p.0 ++ xs) (q.1 ∙ ap (λ (xs : List ℕ). q.0 ++ xs) r.1) ∙ sym (append_assoc p.0 q.0 rest), (p.0, q.0, a.0.0, b.0.0, refl, sym r.0, p.2, q.2))

pub found_store : (b : Bool) (bytes : List ℕ) (o : Option ℕ) (rest : List ℕ) → store_if b bytes ≡ Ok (o, rest) → (bytes ≡ option_to_list o ++ rest) × (is_some o ≡ b)
unfolding store_if
found_store false bytes o rest e = let p = both _ _ _ _ e in (rw (← p.0) p.1, rw (← p.0) refl)
found_store true [] o rest e = absurd cc
found_store true (b ∷ bytes) o rest e = let p = both _ _ _ _ e in (rw (← p.0) (ap (λ (xs : List ℕ). b ∷ xs) p.1), rw (← p.0) refl)

abbrev long_branch : ℕ → ℕ → Branch
long_branch f c = record { sense = nat_eq (f / 128) 1; offset = signed_14 (256 * (f % 64) + c) }

second_byte : (f : ℕ) (bytes : List ℕ) (b : Branch) (rest : List ℕ) → f / 64 % 2 ≡ 0 → (first_byte bytes >>= λ c. done_both (long_branch f c.0) c.1) ≡ done_both b rest → (front : List ℕ) × (f ∷ bytes ≡ front ++ rest) × SpellsBranch front b
second_byte f [] b rest z e = absurd cc
second_byte f (c ∷ bytes) b rest z e = let q = both _ _ _ _ e in (f ∷ c ∷ [], ap (λ (xs : List ℕ). f ∷ c ∷ xs) q.1, (z, sym q.0))

pub found_branch : (bytes : List ℕ) (b : Branch) (rest : List ℕ) → branch_at bytes ≡ Ok (b, rest) → (front : List ℕ) × (bytes ≡ front ++ rest) × SpellsBranch front b
unfolding branch_at
found_branch [] b rest e = absurd cc
found_branch (f ∷ bytes) b rest e =
    elim (chosen (nat_eq (f / 64 % 2) 1) _ _ _ e) [
      | inl p ↦ (let q = both _ _ _ _ p.1 in (f ∷ [], ap (λ (xs : List ℕ). f ∷ xs) q.1, (eqb-true _ _ p.0, sym q.0)))
      | inr p ↦ second_byte f bytes b rest (let h : (f / 64 % 2 ≡ 1 → ⊥) = eqb-false _ _ p.0 in omega arith) p.1
    ]

pub found_branch_if : (t : Bool) (bytes : List ℕ) (b : Option Branch) (rest : List ℕ) → branch_if t bytes ≡ Ok (b, rest) → (front : List ℕ) × (bytes ≡ front ++ rest) × SpellsBranchIf t front b
unfolding branch_if
found_branch_if false bytes b rest e = let p = both _ _ _ _ e in ([], p.1, subst (λ (o : Option Branch). SpellsBranchIf false [] o) p.0 (refl, refl))
found_branch_if true bytes b rest e =
    let a = bind_ok (branch_at bytes) _ _ e in
    let p = found_branch bytes a.0.0 a.0.1 a.1 in
    let q = both _ _ _ _ a.2 in
    (p.0, p.1 ∙ ap (λ (xs : List ℕ). p.0 ++ xs) q.1, subst (λ (o : Option Branch). SpellsBranchIf true p.0 o) q.0 (refl, p.2))

more_text : (h l : ℕ) (text : List ℕ) → h < 128 → IsText text → IsText (h ∷ l ∷ text)
more_text h l [] lt t = absurd t
more_text h l (b ∷ text) lt t = (lt, t)

pub found_text : (bytes rest : List ℕ) → after_text bytes ≡ Some rest → (front : List ℕ) × (bytes ≡ front ++ rest) × IsText front
found_text [] rest e = absurd cc
found_text (h ∷ []) rest e = absurd cc
found_text (h ∷ l ∷ bytes) rest e =
    elim (chosen (nat_lt h 128) _ _ _ e) [
      | inl p ↦ (let q = found_text bytes rest p.1 in (h ∷ l ∷ q.0, ap (λ (xs : List ℕ). h ∷ l ∷ xs) q.1, more_text h l q.0 (ltb-true h 128 p.0) q.2))
      | inr p ↦ (h ∷ l ∷ [], ap (λ (xs : List ℕ). h ∷ l ∷ xs) (some_is _ _ p.1), ltb-false h 128 p.0)
    ]

text_cases : (bytes rest : List ℕ) (o : Option (List ℕ)) → after_text bytes ≡ o → (elim o [ None ↦ Err faults.Text | Some r ↦ Ok r ]) ≡ done rest → (front : List ℕ) × (bytes ≡ front ++ rest) × IsText front
text_cases bytes rest None a e = absurd cc
text_cases bytes rest (Some r) a e = found_text bytes rest (a ∙ ap (λ (xs : List ℕ). Some xs) (ok_is _ _ e))

pub found_text_if : (b : Bool) (bytes rest : List ℕ) → text_if b bytes ≡ Ok rest → (front : List ℕ) × (bytes ≡ front ++ rest) × SpellsTextIf b front
unfolding text_if
found_text_if false bytes rest e = ([], ok_is _ _ e, refl)
found_text_if true bytes rest e = text_cases bytes rest (after_text bytes) refl e
