-- What is read of bytes is made of words, and of numbers of variables that are bytes.
use Rattle.std.proofs.Common.{◌≡◌, ℕ, zero, suc, ◌+◌, ◌<◌, List, [], ◌∷◌, ◌++◌, drop, Option, Some, None, Ok, sym, subst, arith, lit<}
use Rattle.std.specs.List.{AllByRecursion}
use Rattle.std.specs.Option.{option_to_list}
use Rattle.std.specs.Prelude.{unwrap_or}
use Rattle.std.proofs.lemmas.List.{get_or-drop}
use Rattle.zstory.specs.Bytes.{AreBytes}
use Rattle.zcode.specs.declared.types.OperandType.{OperandType}
use Rattle.zcode.specs.declared.types.OperandType.TheVariants as types
use Rattle.zcode.specs.declared.opcode.Opcode.{Opcode}
use Rattle.zcode.specs.declared.opcode.Opcode.TheVariants.{Jz, Pull, Pop, RetPopped, Rtrue, Rfalse}
use Rattle.zcode.specs.declared.instr.Operand.{Operand}
use Rattle.zcode.specs.declared.instr.Operand.TheVariants.{Constant, Variable}
use Rattle.zcode.specs.Instruction.{Instruction}
use Rattle.zcode.specs.Operation.{implied, inputs, target}
use Rattle.zcode.specs.Reading.{instruction_at}
use Rattle.zcode.specs.Spelling.{SpellsOperand, SpellsOperands, Spells}
use Rattle.zcode.proofs.Found.{found}

-- a constant is a word, and a variable has a byte for its number (Z 4.2)
abbrev pub InRange : Operand → Type 0
InRange (Constant n) = n < 65536
InRange (Variable v) = v < 256

bytes_before : (front rest : List ℕ) → AreBytes (front ++ rest) → AreBytes front
bytes_before [] rest are p = omega arith
bytes_before (b ∷ front) rest are zero = are 0
bytes_before (b ∷ front) rest are (suc p) = bytes_before front rest (λ q. are (suc q)) p

bytes_behind : (front rest : List ℕ) → AreBytes (front ++ rest) → AreBytes rest
bytes_behind [] rest are = are
bytes_behind (b ∷ front) rest are = bytes_behind front rest (λ q. are (suc q))

pub bytes_from : (memory : List ℕ) (at : ℕ) → AreBytes memory → AreBytes (drop at memory)
bytes_from memory at are p = let e = get_or-drop at memory p 0 in omega (arith, e, are (at + p))

operand_ranges : (t : OperandType) (bytes : List ℕ) (o : Operand) → AreBytes bytes → SpellsOperand t bytes o → InRange o
operand_ranges types.Large bytes o are (h, l, whole, is) =
    let both : AreBytes (h ∷ l ∷ []) = subst AreBytes whole are in
    subst InRange (sym is) (omega (arith, both 0, both 1))
operand_ranges types.Small bytes o are (b, whole, is) =
    let one : AreBytes (b ∷ []) = subst AreBytes whole are in
    subst InRange (sym is) (omega (arith, one 0))
operand_ranges types.Variable bytes o are (b, whole, is) =
    let one : AreBytes (b ∷ []) = subst AreBytes whole are in
    subst InRange (sym is) (one 0)

operands_range : (ts : List OperandType) (bytes : List ℕ) (os : List Operand) → AreBytes bytes → SpellsOperands ts bytes os → AllByRecursion InRange os
operands_range [] bytes os are s = subst (AllByRecursion InRange) (sym s.1) tt
operands_range (t ∷ ts) bytes os are (front, rest, o, others, whole, is, first, second) =
    let parts : AreBytes (front ++ rest) = subst AreBytes whole are in
    subst (AllByRecursion InRange) (sym is) (operand_ranges t front o (bytes_before front rest parts) first, operands_range ts rest others (bytes_behind front rest parts) second)

implied_ranges : (opcode : Opcode) → AllByRecursion InRange (implied opcode)
implied_ranges Jz = (lit< tt, tt)
implied_ranges Pull = (lit< tt, tt)
implied_ranges Pop = (lit< tt, tt)
implied_ranges RetPopped = (lit< tt, tt)
implied_ranges Rtrue = (lit< tt, tt)
implied_ranges Rfalse = (lit< tt, tt)
implied_ranges _ = tt

all_of_both : (os more : List Operand) → AllByRecursion InRange os → AllByRecursion InRange more → AllByRecursion InRange (os ++ more)
all_of_both [] more h k = k
all_of_both (o ∷ os) more h k = (h.0, all_of_both os more h.1 k)

store_range : (store : Option ℕ) → AreBytes (option_to_list store) → unwrap_or store 0 < 256
store_range None are = omega arith
store_range (Some v) are = are 0

-- what an instruction reads, and the variable that takes what it gives
pub record HasRanges (i : Instruction) : Type 0 where
  pub inputs : AllByRecursion InRange (inputs i)
  pub target : target i < 256

spelled_ranges : (front : List ℕ) (i : Instruction) → AreBytes front → Spells front i → HasRanges i
spelled_ranges front i are s =
    let store = option_to_list i.store in
    let whole : AreBytes (s.head ++ s.operands ++ store ++ s.branch ++ s.text) = subst AreBytes s.whole are in
    let to_branch = bytes_before (s.head ++ s.operands ++ store ++ s.branch) s.text whole in
    let to_store = bytes_before (s.head ++ s.operands ++ store) s.branch to_branch in
    let operands = bytes_behind s.head s.operands (bytes_before (s.head ++ s.operands) store to_store) in
    record {
      inputs = all_of_both i.operands (implied i.opcode) (operands_range s.operand_types s.operands i.operands operands s.operands_are) (implied_ranges i.opcode);
      target = store_range i.store (bytes_behind (s.head ++ s.operands) store to_store);
    }

pub read_ranges : (memory : List ℕ) (at : ℕ) (i : Instruction) → AreBytes memory → instruction_at (drop at memory) ≡ Ok i → HasRanges i
read_ranges memory at i are e =
    let spelled = found (drop at memory) i e in
    let all : AreBytes (spelled.0 ++ spelled.1) = subst AreBytes spelled.2 (bytes_from memory at are) in
    spelled_ranges spelled.0 i (bytes_before spelled.0 spelled.1 all) spelled.3
