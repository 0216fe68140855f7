-- What is spelled is read.
use Rattle.std.proofs.Common.{◌≡◌, ℕ, ◌/◌, ◌%◌, ◌-◌, Bool, true, false, List, [], ◌∷◌, ◌++◌, length, Ok, Option, Some, None, refl, ap, ◌∙◌, append_assoc, arith, length-append}
use Rattle.std.proofs.lemmas.Bool.{le-ltb, lt-ltb}
use Rattle.std.specs.Option.{option_to_list}
use Rattle.std.specs.Prelude.{is_some}
use Rattle.ztext.specs.Words.{IsText, after_text}
use Rattle.zcode.specs.declared.types.OperandType.{OperandType}
use Rattle.zcode.specs.declared.types.OperandType.TheVariants.{Large, Small, Variable}
use Rattle.zcode.specs.declared.instr.Operand.{Operand}
use Rattle.zcode.specs.declared.instr.Branch.{Branch}
use Rattle.zcode.specs.declared.table.OperandCount.{OperandCount}
use Rattle.zcode.specs.declared.table.OperandCount.TheVariants.{Two, One, Zero, Many}
use Rattle.zcode.specs.declared.opcode.Opcode.{Opcode}
use Rattle.zcode.specs.Instruction.{Instruction}
use Rattle.zcode.specs.Opcodes.{TakesOperands, branches, opcode_of, prints_text, stores}
use Rattle.zcode.specs.Spelling.{Form, Long, ShortOne, ShortZero, VariableTwo, VariableMany, IsAtFront, SpellsBranch, SpellsBranchIf, SpellsHead, SpellsOperand, SpellsOperands, SpellsTextIf, long_type, types_of}
use Rattle.zcode.specs.Reading.{Head, branch_at, branch_if, checked_head, head_at, instruction_at, long_head, operand_at, operands_at, short_head, store_if, text_if, variable_head}

-- ---- what follows the head

again_operand : (t : OperandType) (front rest : List ℕ) (o : Operand) → SpellsOperand t front o → operand_at t (front ++ rest) ≡ Ok (o, rest)
unfolding operand_at
again_operand Large front rest o s = rw (s.2, s.3) refl
again_operand Small front rest o s = rw (s.1, s.2) refl
again_operand Variable front rest o s = rw (s.1, s.2) refl

again_operands : (ts : List OperandType) (front rest : List ℕ) (os : List Operand) → SpellsOperands ts front os → operands_at ts (front ++ rest) ≡ Ok (os, rest)
unfolding operands_at
again_operands [] front rest os s = rw (s.0, s.1) refl
again_operands (t ∷ ts) front rest os (a, b, o, others, whole, is, first, second) =
    let regrouped : front ++ rest ≡ a ++ (b ++ rest) = ap (λ (xs : List ℕ). xs ++ rest) whole ∙ append_assoc a b rest in
    rw (regrouped, again_operand t a (b ++ rest) o first, again_operands ts b rest others second, is) refl

again_store : (b : Bool) (o : Option ℕ) (rest : List ℕ) → is_some o ≡ b → store_if b (option_to_list o ++ rest) ≡ Ok (o, rest)
unfolding store_if
again_store true None rest e = absurd cc
again_store false None rest e = refl
again_store true (Some n) rest e = refl
again_store false (Some n) rest e = absurd cc

again_branch : (front rest : List ℕ) (b : Branch) → SpellsBranch front b → branch_at (front ++ rest) ≡ Ok (b, rest)
unfolding branch_at
again_branch [] rest b s = absurd s
again_branch (f ∷ []) rest b s = rw (s.0, s.1) refl
again_branch (f ∷ g ∷ []) rest b s = rw (s.0, s.1) refl
again_branch (f ∷ g ∷ h ∷ front) rest b s = absurd s

again_branch_if : (t : Bool) (front rest : List ℕ) (b : Option Branch) → SpellsBranchIf t front b → branch_if t (front ++ rest) ≡ Ok (b, rest)
unfolding branch_if
again_branch_if true front rest None s = absurd (let f = s.0 in cc)
again_branch_if false front rest None s = rw s.1 refl
again_branch_if true front rest (Some b) s = rw (again_branch front rest b s.1) refl
again_branch_if false front rest (Some b) s = absurd (let f = s.0 in cc)

again_text : (front rest : List ℕ) → IsText front → after_text (front ++ rest) ≡ Some rest
again_text [] rest s = absurd s
again_text (h ∷ []) rest s = absurd s
again_text (h ∷ l ∷ []) rest s = rw (le-ltb h 128 s) refl
again_text (h ∷ l ∷ b ∷ front) rest s = rw (lt-ltb h 128 s.0) (again_text (b ∷ front) rest s.1)

again_text_if : (t : Bool) (front rest : List ℕ) → SpellsTextIf t front → text_if t (front ++ rest) ≡ Ok rest
unfolding text_if
again_text_if false front rest s = rw s refl
again_text_if true front rest s = rw (again_text front rest s, text_if) refl

-- ---- the head

abbrev head_of : Opcode → List OperandType → Head
head_of opcode ts = record { opcode = opcode; operand_types = ts }

again_checked : (opcode : Opcode) (ts : List OperandType) → TakesOperands opcode (length ts) → checked_head opcode ts ≡ Ok (head_of opcode ts)
unfolding checked_head
again_checked opcode ts fits = rw (le-ltb _ _ fits.0, le-ltb _ _ fits.1) refl

again_long : (b : ℕ) (opcode : Opcode) (ts : List OperandType) → opcode_of Two (b % 32) ≡ Ok opcode → ts ≡ long_type (b / 64 % 2) ∷ long_type (b / 32 % 2) ∷ [] → TakesOperands opcode (length ts) → long_head b ≡ Ok (head_of opcode ts)
unfolding long_head
again_long b opcode ts e is p = rw (e, ← is) (again_checked opcode ts p)

again_short : (b : ℕ) (opcode : Opcode) (t : OperandType) → opcode_of One (b % 16) ≡ Ok opcode → TakesOperands opcode (length (t ∷ [])) → short_head b (Some t) ≡ Ok (head_of opcode (t ∷ []))
unfolding short_head
again_short b opcode t e p = rw (e) (again_checked opcode (t ∷ []) p)

again_bare : (b : ℕ) (opcode : Opcode) → opcode_of Zero (b % 16) ≡ Ok opcode → TakesOperands opcode 0 → short_head b None ≡ Ok (head_of opcode [])
unfolding short_head
again_bare b opcode e p = rw (e) (again_checked opcode [] p)

again_variable : (count : OperandCount) (b t : ℕ) (rest : List ℕ) (opcode : Opcode) (ts : List OperandType) → opcode_of count (b % 32) ≡ Ok opcode → ts ≡ types_of t → TakesOperands opcode (length ts) → variable_head count b (t ∷ rest) ≡ Ok (head_of opcode ts, rest)
unfolding variable_head
again_variable count b t rest opcode ts e is p = rw (e, ← is, again_checked opcode ts p) refl

again_head : (form : Form) (front rest : List ℕ) (opcode : Opcode) (ts : List OperandType) → SpellsHead form front opcode ts → TakesOperands opcode (length ts) → head_at (front ++ rest) ≡ Ok (head_of opcode ts, rest)
unfolding head_at
again_head Long [] rest opcode ts s p = absurd s
again_head Long (b ∷ []) rest opcode ts s p = rw (lt-ltb b 0x80 s.0, again_long b opcode ts s.1 s.2 p) refl
again_head Long (b ∷ c ∷ front) rest opcode ts s p = absurd s
again_head ShortOne [] rest opcode ts s p = absurd s
again_head ShortOne (b ∷ []) rest opcode ts s p =
    let is = s.5 in
    rw (le-ltb b 0x80 s.0, lt-ltb b 0xC0 s.1, s.4, is, again_short b opcode s.3 s.2 (rw is at p)) refl
again_head ShortOne (b ∷ c ∷ front) rest opcode ts s p = absurd s
again_head ShortZero [] rest opcode ts s p = absurd s
again_head ShortZero (b ∷ []) rest opcode ts s p =
    let is = s.4 in
    rw (le-ltb b 0x80 s.0, lt-ltb b 0xC0 s.1, s.3, is, again_bare b opcode s.2 (rw is at p)) refl
again_head ShortZero (b ∷ c ∷ front) rest opcode ts s p = absurd s
again_head VariableTwo [] rest opcode ts s p = absurd s
again_head VariableTwo (b ∷ []) rest opcode ts s p = absurd s
again_head VariableTwo (b ∷ t ∷ []) rest opcode ts s p = rw (le-ltb b 0x80 (omega (arith, s.0)), le-ltb b 0xC0 s.0, lt-ltb b 0xE0 s.1) (again_variable Two b t rest opcode ts s.2 s.3 p)
again_head VariableTwo (b ∷ t ∷ c ∷ front) rest opcode ts s p = absurd s
again_head VariableMany [] rest opcode ts s p = absurd s
again_head VariableMany (b ∷ []) rest opcode ts s p = absurd s
again_head VariableMany (b ∷ t ∷ []) rest opcode ts s p = rw (le-ltb b 0x80 (omega (arith, s.0)), le-ltb b 0xC0 (omega (arith, s.0)), le-ltb b 0xE0 s.0) (again_variable Many b t rest opcode ts s.1 s.2 p)
again_head VariableMany (b ∷ t ∷ c ∷ front) rest opcode ts s p = absurd s

-- ---- the whole

apart : (a b s c d rest : List ℕ) → (a ++ b ++ s ++ c ++ d) ++ rest ≡ a ++ (b ++ (s ++ (c ++ (d ++ rest))))
apart a b s c d rest = simp append_assoc

pub only : (bytes : List ℕ) (i : Instruction) → IsAtFront bytes i → instruction_at bytes ≡ Ok i
unfolding instruction_at
only bytes i (front, rest, parts, s) =
    let store = option_to_list i.store in
    let size : length bytes - length rest ≡ i.size = rw (parts, s.size_is) (omega (arith, length-append front rest)) in
    let nested : bytes ≡ s.head ++ (s.operands ++ (store ++ (s.branch ++ (s.text ++ rest)))) = parts ∙ ap (λ (xs : List ℕ). xs ++ rest) s.whole ∙ apart s.head s.operands store s.branch s.text rest in
    let head : head_at bytes ≡ Ok (head_of i.opcode s.operand_types, s.operands ++ (store ++ (s.branch ++ (s.text ++ rest)))) = ap head_at nested ∙ again_head s.form s.head _ i.opcode s.operand_types s.head_is s.number_is in
    rw (
      head,
      again_operands s.operand_types s.operands (store ++ (s.branch ++ (s.text ++ rest))) i.operands s.operands_are,
      again_store (stores i.opcode) i.store (s.branch ++ (s.text ++ rest)) s.store_is,
      again_branch_if (branches i.opcode) s.branch (s.text ++ rest) i.branch s.branch_is,
      again_text_if (prints_text i.opcode) s.text rest s.text_is,
      size,
    ) refl
