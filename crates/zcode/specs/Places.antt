-- How an instruction is kept: its operands as four words, with the types of those that are used in one byte, and zeros for
-- what its opcode has none of.
use Rattle.std.specs.Prelude.{pos, Bool, true, false, Option, Some, None, ℕ, ◌+◌, ◌*◌, ◌%◌, ◌<◌, List, [], ◌∷◌, ◌++◌, map, take}
use Rattle.zcode.specs.declared.types.OperandType.{OperandType}
use Rattle.zcode.specs.declared.types.OperandType.TheVariants as types
use Rattle.zcode.specs.declared.opcode.Opcode.{Opcode}
use Rattle.zcode.specs.declared.instr.Branch.{Branch}
use Rattle.zcode.specs.declared.instr.Tail.{Tail}
use Rattle.zcode.specs.declared.instr.Operand.{Operand}
use Rattle.zcode.specs.declared.instr.Operand.TheVariants.{Constant, Variable}
use Rattle.zcode.specs.Opcodes.{branches, stores}
use Rattle.zcode.specs.Instruction.{Instruction}

-- the operand that a word of a type is, where the number of a variable is the low byte (Z 4.2)
abbrev pub operand_of : OperandType → ℕ → Operand
operand_of types.Variable word = Variable (word % 256)
operand_of _ word = Constant word

-- the operands that words of these types are
abbrev pub typed : List OperandType → List ℕ → List Operand
typed (t ∷ ts) (word ∷ words) = operand_of t word ∷ typed ts words
typed _ _ = []

-- the value of a constant, and the number of a variable
abbrev pub word_of : Operand → ℕ
word_of (Constant word) = word
word_of (Variable number) = number

-- the number of a variable is a byte
abbrev pub IsByte : Operand → Type 0
IsByte (Constant word) = Unit {0}
IsByte (Variable number) = number < 256

-- the two bits that name how an operand is kept: a constant of either size as one of two bytes (own)
abbrev pub bits_of : Operand → ℕ
bits_of (Constant word) = 0
bits_of (Variable number) = 2

-- four pairs of bits in a byte, the first at its top (Z 4.4.3)
abbrev pub packed : List ℕ → ℕ
packed (a ∷ b ∷ c ∷ d ∷ _) = 64 * a + 16 * b + 4 * c + d
packed _ = 0

-- the words of operands, and unused places after them
abbrev pub padded : List Operand → List ℕ
padded operands = take 4 (map word_of operands ++ 0 ∷ 0 ∷ 0 ∷ 0 ∷ [])

-- the type byte of operands, which names the places after them as omitted
abbrev pub type_byte : List Operand → ℕ
type_byte operands = packed (map bits_of operands ++ 3 ∷ 3 ∷ 3 ∷ 3 ∷ [])

-- a value where there is one
abbrev pub given_if : {A : Type 0} → Bool → A → Option A
given_if true x = Some x
given_if false x = None

-- the instruction of these parts, of which the opcode tells whether there are a store variable and branch data
abbrev pub written : Opcode → List Operand → Tail → ℕ → Instruction
written opcode operands tail size = record { opcode = opcode; operands = operands; store = given_if (stores opcode) tail.store; branch = given_if (branches opcode) (record { sense = tail.sense; offset = tail.offset }); size = size }

-- what follows the operands, with zeros for what there is none of
abbrev pub tail_of : Option ℕ → Option Branch → Tail
tail_of None None = record { store = 0; sense = false; offset = pos 0 }
tail_of (Some number) None = record { store = number; sense = false; offset = pos 0 }
tail_of None (Some branch) = record { store = 0; sense = branch.sense; offset = branch.offset }
tail_of (Some number) (Some branch) = record { store = number; sense = branch.sense; offset = branch.offset }

abbrev pub kept : Instruction → Tail
kept instruction = tail_of instruction.store instruction.branch
