-- Which bytes spell which instruction (Z 4).
use Rattle.std.specs.Prelude.{◌≡◌, ℕ, zero, suc, ◌+◌, ◌*◌, ◌/◌, ◌%◌, ◌≤◌, ◌<◌, Bool, true, false, List, [], ◌∷◌, ◌++◌, length, Option, Some, None, is_some, Ok, if◌then◌else◌, nat_lt, ℤ, pos, negsuc, ◌-◌, ◌==◌}
use Rattle.std.specs.Option.{option_to_list}
use Rattle.ztext.specs.Words.{IsText}
use Rattle.zcode.specs.declared.opcode.Opcode.{Opcode}
use Rattle.zcode.specs.declared.table.OperandCount.TheVariants.{Two, One, Zero, Many}
use Rattle.zcode.specs.declared.types.OperandType.{OperandType}
use Rattle.zcode.specs.declared.types.OperandType.TheVariants as types
use Rattle.zcode.specs.declared.instr.Operand.{Operand}
use Rattle.zcode.specs.declared.instr.Operand.TheVariants.{Constant, Variable}
use Rattle.zcode.specs.declared.instr.Branch.{Branch}
use Rattle.zcode.specs.Opcodes.{TakesOperands, branches, opcode_of, prints_text, stores}
use Rattle.zcode.specs.Instruction.{Instruction}

-- the type that two bits name, or none where the operand is omitted (Z 4.2)
abbrev pub type_of : ℕ → Option OperandType
type_of zero = Some types.Large
type_of (suc zero) = Some types.Small
type_of (suc (suc zero)) = Some types.Variable
type_of _ = None

-- the type that one bit of the long form names (Z 4.4.2)
abbrev pub long_type : ℕ → OperandType
long_type zero = types.Small
long_type _ = types.Variable

-- after an omitted operand the rest count as omitted (Z 4.4.3; that types after it are ignored is own)
abbrev pub before_omitted : List (Option OperandType) → List OperandType
before_omitted [] = []
before_omitted (None ∷ _) = []
before_omitted (Some type ∷ rest) = type ∷ before_omitted rest

-- the types that a type byte names, from its top bits down (Z 4.4.3)
abbrev pub types_of : ℕ → List OperandType
types_of byte = before_omitted (type_of (byte / 64) ∷ type_of (byte / 16 % 4) ∷ type_of (byte / 4 % 4) ∷ type_of (byte % 4) ∷ [])

-- The forms (Z 4.3): the long one; the short one with an operand and without one; the variable one with the numbers
-- of 2OP and with those of VAR.
pub data Form : Type 0 where
  Long : Form
  ShortOne : Form
  ShortZero : Form
  VariableTwo : Form
  VariableMany : Form

-- The bytes before the operands, by form: the top bits of the first byte tell the form (0 long, 10 short, 110 and 111
-- variable), its low bits the number of the opcode, and it or a type byte the types of the operands (Z 4.3, 4.4).
abbrev pub SpellsHead : Form → List ℕ → Opcode → List OperandType → Type 0
SpellsHead Long (b ∷ []) opcode ts = (b < 0x80) × (opcode_of Two (b % 32) ≡ Ok opcode) × (ts ≡ long_type (b / 64 % 2) ∷ long_type (b / 32 % 2) ∷ [])
SpellsHead ShortOne (b ∷ []) opcode ts = (0x80 ≤ b) × (b < 0xC0) × (opcode_of One (b % 16) ≡ Ok opcode) × (t : OperandType) × (type_of (b / 16 % 4) ≡ Some t) × (ts ≡ t ∷ [])
SpellsHead ShortZero (b ∷ []) opcode ts = (0x80 ≤ b) × (b < 0xC0) × (opcode_of Zero (b % 16) ≡ Ok opcode) × (type_of (b / 16 % 4) ≡ None) × (ts ≡ [])
SpellsHead VariableTwo (b ∷ t ∷ []) opcode ts = (0xC0 ≤ b) × (b < 0xE0) × (opcode_of Two (b % 32) ≡ Ok opcode) × (ts ≡ types_of t)
SpellsHead VariableMany (b ∷ t ∷ []) opcode ts = (0xE0 ≤ b) × (opcode_of Many (b % 32) ≡ Ok opcode) × (ts ≡ types_of t)
SpellsHead _ _ _ _ = ⊥

-- one operand, by its type (Z 4.2)
abbrev pub SpellsOperand : OperandType → List ℕ → Operand → Type 0
SpellsOperand types.Large bytes operand = (h : ℕ) × (l : ℕ) × (bytes ≡ h ∷ l ∷ []) × (operand ≡ Constant (256 * h + l))
SpellsOperand types.Small bytes operand = (b : ℕ) × (bytes ≡ b ∷ []) × (operand ≡ Constant b)
SpellsOperand types.Variable bytes operand = (b : ℕ) × (bytes ≡ b ∷ []) × (operand ≡ Variable b)

-- the operands in order (Z 4.5)
abbrev pub SpellsOperands : List OperandType → List ℕ → List Operand → Type 0
SpellsOperands [] bytes operands = (bytes ≡ []) × (operands ≡ [])
SpellsOperands (t ∷ ts) bytes operands = (front : List ℕ) × (rest : List ℕ) × (operand : Operand) × (others : List Operand) × (bytes ≡ front ++ rest) × (operands ≡ operand ∷ others) × SpellsOperand t front operand × SpellsOperands ts rest others

-- 14 bits as a signed number, of which bit 13 is the sign
abbrev pub signed_14 : ℕ → ℤ
signed_14 bits = if nat_lt bits 0x2000 then pos bits else negsuc (0x3FFF - bits)

-- Branch data (Z 4.7): bit 7 is the sense, and bit 6 says that the offset has 6 bits; else it has 14, and a sign.
abbrev pub SpellsBranch : List ℕ → Branch → Type 0
SpellsBranch (b ∷ []) branch = (b / 64 % 2 ≡ 1) × (branch ≡ record { sense = b / 128 == 1; offset = pos (b % 64) })
SpellsBranch (b ∷ c ∷ []) branch = (b / 64 % 2 ≡ 0) × (branch ≡ record { sense = b / 128 == 1; offset = signed_14 (256 * (b % 64) + c) })
SpellsBranch _ _ = ⊥

-- branch data where the opcode branches
abbrev pub SpellsBranchIf : Bool → List ℕ → Option Branch → Type 0
SpellsBranchIf wanted bytes None = (wanted ≡ false) × (bytes ≡ [])
SpellsBranchIf wanted bytes (Some branch) = (wanted ≡ true) × SpellsBranch bytes branch

-- text where the opcode prints it (Z 4.8)
abbrev pub SpellsTextIf : Bool → List ℕ → Type 0
SpellsTextIf false bytes = bytes ≡ []
SpellsTextIf true bytes = IsText bytes

-- The bytes spell the instruction: its head, its operands, a store byte, branch data and text, and nothing else (Z 4.1).
pub record Spells (bytes : List ℕ) (instruction : Instruction) : Type 0 where
  pub form : Form
  pub operand_types : List OperandType
  pub head : List ℕ
  pub operands : List ℕ
  pub branch : List ℕ
  pub text : List ℕ
  pub whole : bytes ≡ head ++ operands ++ option_to_list instruction.store ++ branch ++ text
  pub head_is : SpellsHead form head instruction.opcode operand_types
  pub number_is : TakesOperands instruction.opcode (length operand_types)
  pub operands_are : SpellsOperands operand_types operands instruction.operands
  pub store_is : is_some instruction.store ≡ stores instruction.opcode
  pub branch_is : SpellsBranchIf (branches instruction.opcode) branch instruction.branch
  pub text_is : SpellsTextIf (prints_text instruction.opcode) text
  pub size_is : instruction.size ≡ length bytes

-- an instruction is spelled at the front of the bytes
abbrev pub IsAtFront : List ℕ → Instruction → Type 0
IsAtFront bytes instruction = (front : List ℕ) × (rest : List ℕ) × (bytes ≡ front ++ rest) × Spells front instruction
