-- What is read is spelled.
use Rattle.std.proofs.Common.{◌≡◌, ℕ, ◌-◌, ◌<◌, List, [], ◌∷◌, ◌++◌, length, Ok, Option, Some, None, refl, sym, subst, ◌∙◌, append_assoc, arith, length-append, Bool}
use Rattle.std.specs.Option.{option_to_list}
use Rattle.std.specs.Prelude.{is_some}
use Rattle.zcode.specs.declared.types.OperandType.{OperandType}
use Rattle.zcode.specs.declared.instr.Operand.{Operand}
use Rattle.zcode.specs.declared.instr.Branch.{Branch}
use Rattle.zcode.specs.declared.opcode.Opcode.{Opcode}
use Rattle.zcode.specs.Instruction.{Instruction, IsWellFormed}
use Rattle.zcode.specs.Opcodes.{TakesOperands, stores, branches, prints_text}
use Rattle.zcode.specs.Spelling.{Form, Long, ShortOne, ShortZero, VariableTwo, VariableMany, SpellsHead, Spells, IsAtFront, SpellsOperands, SpellsBranchIf, SpellsTextIf}
use Rattle.zcode.specs.Reading.{head_at, operands_at, store_if, branch_if, text_if, instruction_at}
use Rattle.zcode.proofs.Steps.{bind_ok, ok_is}
use Rattle.zcode.proofs.FoundHead.{HeadFrom, found_head}
use Rattle.zcode.proofs.FoundParts.{found_operands, found_store, found_branch_if, found_text_if}

joined : (bytes a b s c d rest : List ℕ) → bytes ≡ a ++ (b ++ (s ++ (c ++ (d ++ rest)))) → bytes ≡ (a ++ b ++ s ++ c ++ d) ++ rest
joined bytes a b s c d rest e = e ∙ simp append_assoc

sized : (bytes front rest : List ℕ) → bytes ≡ front ++ rest → length bytes - length rest ≡ length front
sized bytes front rest e = rw e (omega (arith, length-append front rest))

-- the parts, one after another, are the whole
assembled : (i : Instruction) (ts : List OperandType) (bytes after_head operands after_operands after_store branch after_branch text rest : List ℕ)
    → HeadFrom bytes (record { opcode = i.opcode; operand_types = ts }) after_head
    → after_head ≡ operands ++ after_operands → SpellsOperands ts operands i.operands
    → after_operands ≡ option_to_list i.store ++ after_store → is_some i.store ≡ stores i.opcode
    → after_store ≡ branch ++ after_branch → SpellsBranchIf (branches i.opcode) branch i.branch
    → after_branch ≡ text ++ rest → SpellsTextIf (prints_text i.opcode) text
    → i.size ≡ length bytes - length rest
    → IsAtFront bytes i
assembled i ts bytes after_head operands after_operands after_store branch after_branch text rest head operands_at operands_are store_at store_is branch_at branch_is text_at text_is size_is =
    let store = option_to_list i.store in
    let nested : bytes ≡ head.front ++ (operands ++ (store ++ (branch ++ (text ++ rest)))) = rw (head.whole, operands_at, store_at, branch_at, text_at) refl in
    let whole : bytes ≡ (head.front ++ operands ++ store ++ branch ++ text) ++ rest = joined bytes head.front operands store branch text rest nested in (
      head.front ++ operands ++ store ++ branch ++ text,
      rest,
      whole,
      record {
        form = head.form;
        operand_types = ts;
        head = head.front;
        operands = operands;
        branch = branch;
        text = text;
        whole = refl;
        head_is = head.spelled;
        number_is = head.number;
        operands_are = operands_are;
        store_is = store_is;
        branch_is = branch_is;
        text_is = text_is;
        size_is = size_is ∙ sized bytes _ rest whole;
      },
    )

pub found : (bytes : List ℕ) (i : Instruction) → instruction_at bytes ≡ Ok i → IsAtFront bytes i
unfolding instruction_at
found bytes i e =
    let h = bind_ok (head_at bytes) _ _ e in
    let o = bind_ok (operands_at h.0.0.operand_types h.0.1) _ _ h.2 in
    let s = bind_ok (store_if (stores h.0.0.opcode) o.0.1) _ _ o.2 in
    let b = bind_ok (branch_if (branches h.0.0.opcode) s.0.1) _ _ s.2 in
    let x = bind_ok (text_if (prints_text h.0.0.opcode) b.0.1) _ _ b.2 in
    let of = found_operands h.0.0.operand_types h.0.1 o.0.0 o.0.1 o.1 in
    let sf = found_store (stores h.0.0.opcode) o.0.1 s.0.0 s.0.1 s.1 in
    let bf = found_branch_if (branches h.0.0.opcode) s.0.1 b.0.0 b.0.1 b.1 in
    let xf = found_text_if (prints_text h.0.0.opcode) b.0.1 x.0 x.1 in
    subst (λ (j : Instruction). IsAtFront bytes j) (ok_is _ _ x.2) (assembled _ h.0.0.operand_types bytes h.0.1 of.0 o.0.1 s.0.1 bf.0 b.0.1 xf.0 x.0 (found_head bytes h.0.0 h.0.1 h.1) of.1 of.2 sf.0 sf.1 bf.1 bf.2 xf.1 xf.2 refl)

-- ---- what is spelled is well formed

operands_count : (ts : List OperandType) (bytes : List ℕ) (os : List Operand) → SpellsOperands ts bytes os → length os ≡ length ts
operands_count [] bytes os s = rw s.1 refl
operands_count (t ∷ ts) bytes os (a, b, o, others, whole, is, first, second) = rw (is, operands_count ts b others second) refl

branch_present : (t : Bool) (bytes : List ℕ) (b : Option Branch) → SpellsBranchIf t bytes b → is_some b ≡ t
branch_present t bytes None s = sym s.0
branch_present t bytes (Some b) s = sym s.0

head_positive : (form : Form) (head : List ℕ) (opcode : Opcode) (ts : List OperandType) → SpellsHead form head opcode ts → 0 < length head
head_positive form (b ∷ head) opcode ts s = omega arith
head_positive Long [] opcode ts s = absurd s
head_positive ShortOne [] opcode ts s = absurd s
head_positive ShortZero [] opcode ts s = absurd s
head_positive VariableTwo [] opcode ts s = absurd s
head_positive VariableMany [] opcode ts s = absurd s

pub spelled_well_formed : (bytes : List ℕ) (i : Instruction) → Spells bytes i → IsWellFormed i
spelled_well_formed bytes i s = record {
  operands = subst (λ (n : ℕ). TakesOperands i.opcode n) (sym (operands_count s.operand_types s.operands i.operands s.operands_are)) s.number_is;
  store = s.store_is;
  branch = branch_present (branches i.opcode) s.branch i.branch s.branch_is;
  size = (
      let positive : 0 < length s.head = head_positive s.form s.head i.opcode s.operand_types s.head_is in
      rw (s.size_is, s.whole) (simp length-append (omega arith))
      );
}

pub well_formed : (bytes : List ℕ) (i : Instruction) → instruction_at bytes ≡ Ok i → IsWellFormed i
well_formed bytes i e = let f = found bytes i e in spelled_well_formed f.0 i f.3
