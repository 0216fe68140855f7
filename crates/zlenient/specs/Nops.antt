-- How code reads what is passed over.
use Rattle.std.specs.Prelude.{ℕ, List, None}
use Rattle.zcode.specs.declared.opcode.Opcode.TheVariants.{Nop}
use Rattle.zcode.specs.declared.types.OperandType.{OperandType}
use Rattle.zcode.specs.declared.types.OperandType.TheVariants as types
use Rattle.zcode.specs.declared.instr.Operand.{Operand}
use Rattle.zcode.specs.Instruction.{Instruction}
use Rattle.zlenient.specs.declared.passing.Kind.{Kind}
use Rattle.zlenient.specs.declared.passing.Kind.TheVariants as kinds

-- how an operand is written
abbrev pub type_in : Kind → OperandType
type_in kinds.Large = types.Large
type_in kinds.Small = types.Small
type_in kinds.Variable = types.Variable

-- a `nop` that reads these operands
abbrev pub nop_of : List Operand → ℕ → Instruction
nop_of operands size = record { opcode = Nop; operands = operands; store = None; branch = None; size = size }
