-- The text of an instruction stands behind its first byte.
use Rattle.std.proofs.Common.{◌≡◌, ℕ, zero, suc, ◌+◌, ◌-◌, ◌≤◌, Bool, true, false, not, ◌&&◌, ◌%◌, List, [], ◌∷◌, ◌++◌, length, drop, Ok, Err, Option, Some, None, option_map, refl, sym, ap, subst, ◌∙◌, arith}
use Rattle.std.specs.Prelude.{IsTrue, is_some, slice_index_or}
use Rattle.std.specs.Option.{option_to_list}
use Rattle.std.specs.List.{list_all}
use Rattle.std.proofs.lemmas.List.{drop-drop}
use Rattle.ztext.specs.Words.{IsText, front_text, length_at}
use Rattle.zcode.specs.declared.types.OperandType.{OperandType}
use Rattle.zcode.specs.declared.table.OperandCount.TheVariants.{Two, Many}
use Rattle.zcode.specs.declared.instr.Operand.{Operand}
use Rattle.zcode.specs.declared.instr.Branch.{Branch}
use Rattle.zcode.specs.declared.opcode.Opcode.{Opcode}
use Rattle.zcode.specs.declared.opcode.Opcode.TheVariants.{Print, PrintRet}
use Rattle.zcode.specs.Opcodes.{Entry, missing, table, operand_bounds, stores, branches, prints_text}
use Rattle.zcode.specs.Instruction.{Instruction}
use Rattle.zcode.specs.Reading.{instruction_at}
use Rattle.zcode.specs.Spelling.{Form, Long, ShortOne, ShortZero, VariableTwo, VariableMany, SpellsHead, IsAtFront, SpellsOperands, SpellsBranchIf, SpellsTextIf}
use Rattle.zcode.proofs.Found.{found}

-- an opcode with text takes nothing else
record TakesNothing (opcode : Opcode) : Type 0 where
  operands : (operand_bounds opcode).1 ≡ 0
  store : stores opcode ≡ false
  branch : branches opcode ≡ false

takes_nothing : (opcode : Opcode) → prints_text opcode ≡ true → TakesNothing opcode
takes_nothing Print e = record { operands = refl; store = refl; branch = refl }
takes_nothing PrintRet e = record { operands = refl; store = refl; branch = refl }
takes_nothing _ e = absurd cc

-- no such opcode is among those
silent : Entry → Bool
silent (Ok opcode) = not (prints_text opcode)
silent (Err fault) = true

both_true : (a b : Bool) → (a && b) ≡ true → (a ≡ true) × (b ≡ true)
both_true true b e = (refl, e)
both_true false b e = absurd cc

same_opcode : (o p : Opcode) (r : Entry) → r ≡ Ok o → r ≡ Ok p → o ≡ p
same_opcode o p r e f = cc

never : (b : Bool) → not b ≡ true → b ≡ true → ⊥
never true e f = absurd cc
never false e f = absurd cc

silent_at : (entries : List Entry) (n : ℕ) (opcode : Opcode) → list_all silent entries ≡ true → slice_index_or entries n missing ≡ Ok opcode → prints_text opcode ≡ true → ⊥
unfolding silent
silent_at [] n opcode all e text = absurd cc
silent_at (Ok o ∷ entries) zero opcode all e text =
    never (prints_text o) (both_true (silent (Ok o)) (list_all silent entries) all).0 (ap prints_text (same_opcode o opcode (Ok o) refl e) ∙ text)
silent_at (Err f ∷ entries) zero opcode all e text = absurd cc
silent_at (x ∷ entries) (suc n) opcode all e text = silent_at entries n opcode (both_true (silent x) (list_all silent entries) all).1 e text

-- a head of an opcode that takes no operands and isn't found among the others is one byte
one_byte : (form : Form) (head : List ℕ) (opcode : Opcode) (ts : List OperandType) → SpellsHead form head opcode ts → ts ≡ [] → prints_text opcode ≡ true → (b : ℕ) × (head ≡ b ∷ [])
unfolding silent
one_byte Long (b ∷ []) opcode ts s none text = (b, refl)
one_byte ShortOne (b ∷ []) opcode ts s none text = (b, refl)
one_byte ShortZero (b ∷ []) opcode ts s none text = (b, refl)
one_byte VariableTwo (b ∷ t ∷ []) opcode ts s none text = absurd (silent_at (table Two) (b % 32) opcode refl s.2 text)
one_byte VariableMany (b ∷ t ∷ []) opcode ts s none text = absurd (silent_at (table Many) (b % 32) opcode refl s.1 text)
one_byte _ _ _ _ s none text = absurd s

no_types : (ts : List OperandType) → length ts ≤ 0 → ts ≡ []
no_types [] few = refl
no_types (t ∷ ts) few = absurd (omega (arith, few))

no_operands : (ts : List OperandType) (bytes : List ℕ) (os : List Operand) → ts ≡ [] → SpellsOperands ts bytes os → bytes ≡ []
no_operands [] bytes os none s = s.0
no_operands (t ∷ ts) bytes os none s = absurd cc

no_store : (o : Option ℕ) → is_some o ≡ false → option_to_list o ≡ []
no_store None e = refl
no_store (Some v) e = absurd cc

no_branch : (wanted : Bool) (bytes : List ℕ) (o : Option Branch) → wanted ≡ false → SpellsBranchIf wanted bytes o → bytes ≡ []
no_branch wanted bytes None none s = s.1
no_branch wanted bytes (Some branch) none s = absurd (let w = s.0 in cc)

only_text : (head operands store branch text : List ℕ) (b : ℕ) → head ≡ b ∷ [] → operands ≡ [] → store ≡ [] → branch ≡ [] → head ++ operands ++ store ++ branch ++ text ≡ b ∷ text
only_text head operands store branch text b h o s c = rw (h, o, s, c) refl

inline_front : ((text rest : List ℕ) → IsText text → front_text (text ++ rest) ≡ Some text) → (memory : List ℕ) (at : ℕ) (i : Instruction) → IsAtFront (drop at memory) i → prints_text i.opcode ≡ true → length_at memory (at + 1) ≡ Some (i.size - 1)
inline_front cut memory at i (front, rest, whole, s) text =
    let nothing = takes_nothing i.opcode text in
    let none : s.operand_types ≡ [] = no_types s.operand_types (rw nothing.operands at s.number_is.1) in
    let head = one_byte s.form s.head i.opcode s.operand_types s.head_is none text in
    let front_is : front ≡ head.0 ∷ s.text = s.whole ∙ only_text s.head s.operands (option_to_list i.store) s.branch s.text head.0 head.1 (no_operands s.operand_types s.operands i.operands none s.operands_are) (no_store i.store (s.store_is ∙ nothing.store)) (no_branch (branches i.opcode) s.branch i.branch nothing.branch s.branch_is) in
    let is_text : IsText s.text = subst (λ (b : Bool). SpellsTextIf b s.text) text s.text_is in
    let later : drop (at + 1) memory ≡ s.text ++ rest = sym (drop-drop 1 at memory) ∙ ap (drop 1) (whole ∙ ap (λ (xs : List ℕ). xs ++ rest) front_is) in
    let long : i.size ≡ length (head.0 ∷ s.text) = s.size_is ∙ ap length front_is in
    ap (option_map length) (ap front_text later ∙ cut s.text rest is_text) ∙ ap (λ (n : ℕ). Some n) (omega (arith, long))

pub inline_length : ((text rest : List ℕ) → IsText text → front_text (text ++ rest) ≡ Some text) → (memory : List ℕ) (at : ℕ) (i : Instruction) → instruction_at (drop at memory) ≡ Ok i → IsTrue (prints_text i.opcode) → length_at memory (at + 1) ≡ Some (i.size - 1)
inline_length cut memory at i e text = inline_front cut memory at i (found (drop at memory) i e) text
