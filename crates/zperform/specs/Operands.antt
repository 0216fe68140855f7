-- The operands of an instruction, in words (own).
use Rattle.std.specs.Prelude.{ℕ, zero, suc, ◌*◌, pos, List, [], ◌∷◌, ◌++◌, codes, decimal, get_or, nat_lt, if◌then◌else◌}
use Rattle.std.specs.Fmt.{signed_decimal}
use Rattle.zdomain.specs.Interval.{signed}
use Rattle.zcode.specs.declared.opcode.Opcode.{Opcode}
use Rattle.zcode.specs.declared.opcode.Opcode.TheVariants as opcodes
use Rattle.zcode.specs.declared.instr.Operand.{Operand}
use Rattle.zcode.specs.declared.instr.Operand.TheVariants.{Constant, Variable}
use Rattle.zperform.specs.Numbered.{numbered}
use Rattle.zperform.specs.Report.{place_text}
use Rattle.zperform.specs.declared.operands.Meaning.{Meaning}
use Rattle.zperform.specs.declared.operands.Meaning.TheVariants as meanings

-- what the first operands of an opcode stand for, where that isn't a number (Z 15)
abbrev pub meanings_of : Opcode → List Meaning
meanings_of opcodes.Jin = meanings.Object ∷ meanings.Object ∷ []
meanings_of opcodes.InsertObj = meanings.Object ∷ meanings.Object ∷ []
meanings_of opcodes.TestAttr = meanings.Object ∷ meanings.Attribute ∷ []
meanings_of opcodes.SetAttr = meanings.Object ∷ meanings.Attribute ∷ []
meanings_of opcodes.ClearAttr = meanings.Object ∷ meanings.Attribute ∷ []
meanings_of opcodes.GetProp = meanings.Object ∷ meanings.Property ∷ []
meanings_of opcodes.GetPropAddr = meanings.Object ∷ meanings.Property ∷ []
meanings_of opcodes.GetNextProp = meanings.Object ∷ meanings.Property ∷ []
meanings_of opcodes.PutProp = meanings.Object ∷ meanings.Property ∷ []
meanings_of opcodes.GetSibling = meanings.Object ∷ []
meanings_of opcodes.GetChild = meanings.Object ∷ []
meanings_of opcodes.GetParent = meanings.Object ∷ []
meanings_of opcodes.RemoveObj = meanings.Object ∷ []
meanings_of opcodes.PrintObj = meanings.Object ∷ []
meanings_of opcodes.Inc = meanings.Variable ∷ []
meanings_of opcodes.Dec = meanings.Variable ∷ []
meanings_of opcodes.IncChk = meanings.Variable ∷ []
meanings_of opcodes.DecChk = meanings.Variable ∷ []
meanings_of opcodes.Load = meanings.Variable ∷ []
meanings_of opcodes.Store = meanings.Variable ∷ []
meanings_of opcodes.Pull = meanings.Variable ∷ []
meanings_of opcodes.Call = meanings.Routine ∷ []
meanings_of _ = []

-- what the operand at a place stands for, of which the first is 0
abbrev pub meaning_at : Opcode → ℕ → Meaning
meaning_at opcode place = get_or (meanings_of opcode) place meanings.Number

-- a variable: the stack, a local from 1 on, or a global from 16 on (Z 4.2.2)
abbrev pub variable_text : ℕ → List ℕ
variable_text zero = codes "stack"
variable_text (suc n) = (if nat_lt n 15 then codes "local " else codes "global ") ++ decimal (suc n)

-- a number that is taken for a variable's, of which there are 256
abbrev pub number_text : ℕ → List ℕ
number_text n = if nat_lt n 256 then variable_text n else codes "variable " ++ decimal n

-- a constant: signed where it is a number (Z 2.2), and of a routine its address, twice what is written (Z 1.2.3)
abbrev pub constant_text : Meaning → ℕ → List ℕ
constant_text meanings.Number n = signed_decimal (signed n)
constant_text meanings.Object n = codes "object " ++ decimal n
constant_text meanings.Attribute n = codes "attribute " ++ decimal n
constant_text meanings.Property n = codes "property " ++ decimal n
constant_text meanings.Variable n = number_text n
constant_text meanings.Routine n = codes "routine " ++ place_text (pos (2 * n))

-- an operand: a constant, or the variable that has it; where that is a variable's number, it stands between brackets
abbrev pub operand_text : Meaning → Operand → List ℕ
operand_text meaning (Constant n) = constant_text meaning n
operand_text meanings.Variable (Variable n) = codes "[" ++ variable_text n ++ codes "]"
operand_text meaning (Variable n) = variable_text n

-- what stands before the operand at a place: a space before the first, a comma between two
abbrev pub separator : ℕ → List ℕ
separator zero = codes " "
separator (suc n) = codes ", "

-- the operand of an opcode at a place
abbrev pub operand_part : Opcode → ℕ → Operand → List ℕ
operand_part opcode place operand = separator place ++ operand_text (meaning_at opcode place) operand

-- all of them
abbrev pub operands_text : Opcode → List Operand → List ℕ
operands_text opcode operands = numbered (operand_part opcode) 0 operands
