-- Values of the definitions, computed.
use Rattle.std.proofs.Common.{◌≡◌, ℕ, ◌+◌, ◌<◌, zero, suc, true, false, [], ◌∷◌, length, Some, None, Ok, Err, pos, negsuc, refl, arith, lit<, lit≤}
use Rattle.zstory.specs.Bytes.{byte_at}
use Rattle.zcode.specs.declared.opcode.Opcode.TheVariants.{Je, IncChk, Or, Mul, Mod, Jz, GetChild, Jump, Not, Rtrue, Rfalse, RetPopped, Print, PrintRet, Quit, NewLine, Verify, Call, Storew, Sread, Load, Push, Pull}
use Rattle.zcode.specs.declared.opcode.Excluded.TheVariants.{SplitWindow, SetWindow, OutputStream, SoundEffect}
use Rattle.zcode.specs.declared.error.DecodeError.TheVariants.{Truncated, NoSuchOpcode, NotInProfile, Operands, Text}
use Rattle.zcode.specs.declared.table.OperandCount.TheVariants.{Two, One, Zero, Many}
use Rattle.zcode.specs.declared.types.OperandType.TheVariants as types
use Rattle.zcode.specs.declared.instr.Operand.TheVariants.{Constant, Variable}
use Rattle.zcode.specs.declared.instr.Destination.TheVariants.{ReturnFalse, ReturnTrue, Relative}
use Rattle.zcode.specs.Operation.{inputs, target}
use Rattle.zcode.specs.Instruction.{Instruction, IsWellFormed, destination}
use Rattle.zcode.specs.Names.{name_of, excluded_name}
use Rattle.zcode.specs.Opcodes.{missing, table, opcode_of, operand_bounds, TakesOperands, stores, branches, prints_text}
use Rattle.zcode.specs.Places.{padded, typed, type_byte}
use Rattle.zcode.specs.Spelling.{type_of, long_type, before_omitted, types_of, Long, ShortOne, ShortZero, VariableTwo, VariableMany, Spells, SpellsHead, SpellsOperand, SpellsOperands, SpellsBranch, SpellsBranchIf, SpellsTextIf, signed_14}
use Rattle.zcode.specs.Reading.{Gives, first_byte, checked_head, long_head, short_head, variable_head, head_at, operand_at, operands_at, store_if, branch_at, branch_if, text_if, instruction_at, Agree}

-- ---- opcodes

-- the numbers that each count has, with the first, the last and the gaps
table_lengths : (length (table Two) ≡ 25) × (length (table One) ≡ 16) × (length (table Zero) ≡ 14) × (length (table Many) ≡ 22)
table_lengths = (refl, refl, refl, refl)

of_two : (opcode_of Two 0 ≡ missing) × (opcode_of Two 1 ≡ Ok Je) × (opcode_of Two 5 ≡ Ok IncChk) × (opcode_of Two 24 ≡ Ok Mod) × (opcode_of Two 25 ≡ missing)
of_two = (refl, refl, refl, refl, refl)

of_one : (opcode_of One 0 ≡ Ok Jz) × (opcode_of One 8 ≡ missing) × (opcode_of One 12 ≡ Ok Jump) × (opcode_of One 15 ≡ Ok Not)
of_one = (refl, refl, refl, refl)

of_zero : (opcode_of Zero 0 ≡ Ok Rtrue) × (opcode_of Zero 2 ≡ Ok Print) × (opcode_of Zero 13 ≡ Ok Verify) × (opcode_of Zero 14 ≡ missing)
of_zero = (refl, refl, refl, refl)

of_many : (opcode_of Many 0 ≡ Ok Call) × (opcode_of Many 9 ≡ Ok Pull) × (opcode_of Many 10 ≡ Err (NotInProfile SplitWindow)) × (opcode_of Many 12 ≡ missing) × (opcode_of Many 18 ≡ missing) × (opcode_of Many 19 ≡ Err (NotInProfile OutputStream)) × (opcode_of Many 21 ≡ Err (NotInProfile SoundEffect)) × (opcode_of Many 22 ≡ missing)
of_many = (refl, refl, refl, refl, refl, refl, refl, refl)

bounds : (operand_bounds Je ≡ (2, 4)) × (operand_bounds Call ≡ (1, 4)) × (operand_bounds Storew ≡ (3, 3)) × (operand_bounds Sread ≡ (2, 2)) × (operand_bounds Jz ≡ (1, 1)) × (operand_bounds Pull ≡ (1, 1)) × (operand_bounds Quit ≡ (0, 0))
bounds = (refl, refl, refl, refl, refl, refl, refl)

taken : TakesOperands Je 4 × TakesOperands Call 1 × (TakesOperands Je 1 → ⊥) × (TakesOperands Call 5 → ⊥) × (TakesOperands Quit 1 → ⊥)
taken = ((lit≤ tt, lit≤ tt), (lit≤ tt, lit≤ tt), (λ t. omega (arith, t.0)), (λ t. omega (arith, t.1)), (λ t. omega (arith, t.1)))

followed : (stores Or ≡ true) × (stores Call ≡ true) × (stores IncChk ≡ false) × (branches IncChk ≡ true) × (branches GetChild ≡ true) × (branches Call ≡ false) × (prints_text PrintRet ≡ true) × (prints_text NewLine ≡ false)
followed = (refl, refl, refl, refl, refl, refl, refl, refl)

-- ---- names, as codes of letters

names : (name_of Je ≡ 106 ∷ 101 ∷ []) × (name_of Or ≡ 111 ∷ 114 ∷ []) × (name_of NewLine ≡ 110 ∷ 101 ∷ 119 ∷ 95 ∷ 108 ∷ 105 ∷ 110 ∷ 101 ∷ [])
names = (refl, refl, refl)

refused_names : (excluded_name SetWindow ≡ 115 ∷ 101 ∷ 116 ∷ 95 ∷ 119 ∷ 105 ∷ 110 ∷ 100 ∷ 111 ∷ 119 ∷ []) × (length (excluded_name SoundEffect) ≡ 12)
refused_names = (refl, refl)

-- ---- instructions

leads : (destination (pos 0) ≡ ReturnFalse) × (destination (pos 1) ≡ ReturnTrue) × (destination (pos 2) ≡ Relative (pos 0)) × (destination (pos 20) ≡ Relative (pos 18)) × (destination (negsuc 1) ≡ Relative (negsuc 3))
leads = (refl, refl, refl, refl, refl)

-- add 1 to local 2, and go on 18 bytes behind the instruction where it's above 0
inc_chk : Instruction
inc_chk = record { opcode = IncChk; operands = Constant 2 ∷ Constant 0 ∷ []; store = None; branch = Some (record { sense = true; offset = pos 20 }); size = 4 }

multiplication : Instruction
multiplication = record { opcode = Mul; operands = Constant 1000 ∷ Variable 2 ∷ []; store = Some 0; branch = None; size = 6 }

jump_to_itself : Instruction
jump_to_itself = record { opcode = Jz; operands = Variable 1 ∷ []; store = None; branch = Some (record { sense = true; offset = negsuc 1 }); size = 4 }

well_formed : IsWellFormed inc_chk
unfolding inc_chk
well_formed = record { operands = (lit≤ tt, lit≤ tt); store = refl; branch = refl; size = lit< tt }

-- it needs its branch and both operands, and takes no store variable
ill_formed : (IsWellFormed (record { opcode = IncChk; operands = Constant 2 ∷ Constant 0 ∷ []; store = None; branch = None; size = 4 }) → ⊥) × (IsWellFormed (record { opcode = Jump; operands = []; store = None; branch = None; size = 3 }) → ⊥) × (IsWellFormed (record { opcode = Quit; operands = []; store = Some 0; branch = None; size = 1 }) → ⊥)
ill_formed = (λ w. absurd (let e = w.branch in cc), λ w. omega (arith, w.operands.0), λ w. absurd (let e = w.store in cc))

pads : (padded [] ≡ 0 ∷ 0 ∷ 0 ∷ 0 ∷ []) × (padded (Variable 1 ∷ Constant 300 ∷ []) ≡ 1 ∷ 300 ∷ 0 ∷ 0 ∷ []) × (type_byte [] ≡ 0xFF) × (type_byte (Variable 1 ∷ Constant 300 ∷ []) ≡ 0x8F) × (typed (types.Variable ∷ types.Small ∷ []) (1 ∷ 300 ∷ 0 ∷ 0 ∷ []) ≡ Variable 1 ∷ Constant 300 ∷ [])
pads = (refl, refl, refl, refl, refl)

-- ---- spelling

operand_types : (type_of 0 ≡ Some types.Large) × (type_of 1 ≡ Some types.Small) × (type_of 2 ≡ Some types.Variable) × (type_of 3 ≡ None) × (long_type 0 ≡ types.Small) × (long_type 1 ≡ types.Variable)
operand_types = (refl, refl, refl, refl, refl, refl)

-- what comes after an omitted type counts as omitted
type_bytes : (types_of 0x2F ≡ types.Large ∷ types.Variable ∷ []) × (types_of 0x57 ≡ types.Small ∷ types.Small ∷ types.Small ∷ []) × (types_of 0x00 ≡ types.Large ∷ types.Large ∷ types.Large ∷ types.Large ∷ []) × (types_of 0xC0 ≡ []) × (types_of 0x75 ≡ types.Small ∷ []) × (before_omitted (None ∷ Some types.Large ∷ []) ≡ [])
type_bytes = (refl, refl, refl, refl, refl, refl)

offsets : (signed_14 0 ≡ pos 0) × (signed_14 0x1FFF ≡ pos 8191) × (signed_14 0x2000 ≡ negsuc 8191) × (signed_14 0x3FFE ≡ negsuc 1) × (signed_14 0x3FFF ≡ negsuc 0)
offsets = (refl, refl, refl, refl, refl)

heads : SpellsHead Long (0x05 ∷ []) IncChk (types.Small ∷ types.Small ∷ []) × SpellsHead ShortOne (0xA0 ∷ []) Jz (types.Variable ∷ []) × SpellsHead VariableTwo (0xD6 ∷ 0x2F ∷ []) Mul (types.Large ∷ types.Variable ∷ []) × SpellsHead VariableMany (0xE0 ∷ 0x3F ∷ []) Call (types.Large ∷ []) × SpellsHead ShortZero (0xB0 ∷ []) Rtrue []
heads = ((lit< tt, refl, refl), (lit≤ tt, lit< tt, refl, types.Variable, refl, refl), (lit≤ tt, lit< tt, refl, refl), (lit≤ tt, refl, refl), (lit≤ tt, lit< tt, refl, refl, refl))

no_heads : (SpellsHead Long (0x85 ∷ []) IncChk (types.Small ∷ types.Small ∷ []) → ⊥) × (SpellsHead VariableTwo (0xF6 ∷ 0x2F ∷ []) Mul (types.Large ∷ types.Variable ∷ []) → ⊥) × (SpellsHead VariableMany (0xE0 ∷ []) Call (types.Large ∷ []) → ⊥)
no_heads = (λ h. omega (arith, h.0), λ h. omega (arith, h.1), λ h. h)

spelled_operands : SpellsOperand types.Large (0x03 ∷ 0xE8 ∷ []) (Constant 1000) × SpellsOperand types.Variable (0x02 ∷ []) (Variable 2) × SpellsOperands (types.Small ∷ []) (0x07 ∷ []) (Constant 7 ∷ []) × SpellsOperands [] [] []
spelled_operands = ((0x03, 0xE8, refl, refl), (0x02, refl, refl), (0x07 ∷ [], [], _, _, refl, refl, (0x07, refl, refl), (refl, refl)), (refl, refl))

spelled_branches : SpellsBranch (0xD4 ∷ []) (record { sense = true; offset = pos 20 }) × SpellsBranch (0x40 ∷ []) (record { sense = false; offset = pos 0 }) × SpellsBranch (0xBF ∷ 0xFE ∷ []) (record { sense = true; offset = negsuc 1 }) × (SpellsBranch (0xD4 ∷ 0x00 ∷ []) (record { sense = true; offset = pos 20 }) → ⊥) × (SpellsBranchIf true [] None → ⊥)
spelled_branches = ((refl, refl), (refl, refl), (refl, refl), (λ s. absurd (let e = s.0 in cc)), (λ s. absurd (let e = s.0 in cc)))

spelled_texts : SpellsTextIf true (0x35 ∷ 0x51 ∷ 0xC6 ∷ 0x85 ∷ []) × SpellsTextIf false [] × (SpellsTextIf true [] → ⊥) × (SpellsTextIf true (0x35 ∷ 0x51 ∷ []) → ⊥)
spelled_texts = ((lit< tt, lit≤ tt), refl, (λ t. t), (λ t. omega (arith, t)))

-- whole instructions: inc_chk 2 0 ?18 bytes on; mul 1000 local 2 -> stack; jz local 1 ?itself
spelled : Spells (0x05 ∷ 0x02 ∷ 0x00 ∷ 0xD4 ∷ []) inc_chk × Spells (0xD6 ∷ 0x2F ∷ 0x03 ∷ 0xE8 ∷ 0x02 ∷ 0x00 ∷ []) multiplication × Spells (0xA0 ∷ 0x01 ∷ 0xBF ∷ 0xFE ∷ []) jump_to_itself
unfolding inc_chk multiplication jump_to_itself
spelled = (
  record {
    form = Long;
    operand_types = types.Small ∷ types.Small ∷ [];
    head = 0x05 ∷ [];
    operands = 0x02 ∷ 0x00 ∷ [];
    branch = 0xD4 ∷ [];
    text = [];
    whole = refl;
    head_is = (lit< tt, refl, refl);
    number_is = (lit≤ tt, lit≤ tt);
    operands_are = (0x02 ∷ [], 0x00 ∷ [], _, _, refl, refl, (0x02, refl, refl), (0x00 ∷ [], [], _, _, refl, refl, (0x00, refl, refl), (refl, refl)));
    store_is = refl;
    branch_is = (refl, (refl, refl));
    text_is = refl;
    size_is = refl;
  },
  record {
    form = VariableTwo;
    operand_types = types.Large ∷ types.Variable ∷ [];
    head = 0xD6 ∷ 0x2F ∷ [];
    operands = 0x03 ∷ 0xE8 ∷ 0x02 ∷ [];
    branch = [];
    text = [];
    whole = refl;
    head_is = (lit≤ tt, lit< tt, refl, refl);
    number_is = (lit≤ tt, lit≤ tt);
    operands_are = (0x03 ∷ 0xE8 ∷ [], 0x02 ∷ [], _, _, refl, refl, (0x03, 0xE8, refl, refl), (0x02 ∷ [], [], _, _, refl, refl, (0x02, refl, refl), (refl, refl)));
    store_is = refl;
    branch_is = (refl, refl);
    text_is = refl;
    size_is = refl;
  },
  record {
    form = ShortOne;
    operand_types = types.Variable ∷ [];
    head = 0xA0 ∷ [];
    operands = 0x01 ∷ [];
    branch = 0xBF ∷ 0xFE ∷ [];
    text = [];
    whole = refl;
    head_is = (lit≤ tt, lit< tt, refl, types.Variable, refl, refl);
    number_is = (lit≤ tt, lit≤ tt);
    operands_are = (0x01 ∷ [], [], _, _, refl, refl, (0x01, refl, refl), (refl, refl));
    store_is = refl;
    branch_is = (refl, (refl, refl));
    text_is = refl;
    size_is = refl;
  },
)

-- ---- reading

bytes_read : (first_byte [] ≡ Err Truncated) × (first_byte (1 ∷ 2 ∷ []) ≡ Ok (1, 2 ∷ [])) × Gives (λ (n : ℕ). n + 1) (Ok 1) (Ok 2) × (Gives (λ (n : ℕ). n + 1) (Ok 1) (Err Text) → ⊥)
bytes_read = (refl, refl, refl, λ e. absurd cc)

heads_read : (checked_head Je (types.Small ∷ []) ≡ Err Operands) × (long_head 0x25 ≡ Ok (record { opcode = IncChk; operand_types = types.Small ∷ types.Variable ∷ [] })) × (short_head 0xA0 (Some types.Variable) ≡ Ok (record { opcode = Jz; operand_types = types.Variable ∷ [] })) × (short_head 0xBA None ≡ Ok (record { opcode = Quit; operand_types = [] }))
unfolding checked_head long_head short_head
heads_read = (refl, refl, refl, refl)

-- both bits of the long form, and the first bytes at which the forms of one operand and of 2OP begin
long_heads : (long_head 0x01 ≡ Ok (record { opcode = Je; operand_types = types.Small ∷ types.Small ∷ [] })) × (long_head 0x21 ≡ Ok (record { opcode = Je; operand_types = types.Small ∷ types.Variable ∷ [] })) × (long_head 0x41 ≡ Ok (record { opcode = Je; operand_types = types.Variable ∷ types.Small ∷ [] })) × (long_head 0x61 ≡ Ok (record { opcode = Je; operand_types = types.Variable ∷ types.Variable ∷ [] }))
unfolding checked_head long_head
long_heads = (refl, refl, refl, refl)

forms_begin : (head_at (0x80 ∷ 7 ∷ []) ≡ Ok (record { opcode = Jz; operand_types = types.Large ∷ [] }, 7 ∷ [])) × (head_at (0xC0 ∷ 7 ∷ []) ≡ Err NoSuchOpcode) × (head_at (0xE0 ∷ 0x3F ∷ 7 ∷ []) ≡ Ok (record { opcode = Call; operand_types = types.Large ∷ [] }, 7 ∷ []))
unfolding head_at checked_head long_head short_head variable_head
forms_begin = (refl, refl, refl)

-- an opcode is judged before its type byte, and their number before the operands
first_faults : (variable_head Many 0xEB [] ≡ Err (NotInProfile SetWindow)) × (variable_head Many 0xE0 [] ≡ Err Truncated) × (variable_head Many 0xE1 (0xFF ∷ []) ≡ Err Operands) × (head_at (0xBE ∷ []) ≡ Err NoSuchOpcode) × (head_at [] ≡ Err Truncated) × (variable_head Two 0xC0 [] ≡ Err NoSuchOpcode) × (variable_head Many 0xEB (0xFF ∷ []) ≡ Err (NotInProfile SetWindow))
unfolding head_at short_head variable_head checked_head
first_faults = (refl, refl, refl, refl, refl, refl, refl)

operands_read : (operand_at types.Large (0x03 ∷ 0xE8 ∷ 9 ∷ []) ≡ Ok (Constant 1000, 9 ∷ [])) × (operand_at types.Large (0x03 ∷ []) ≡ Err Truncated) × (operands_at (types.Small ∷ types.Variable ∷ []) (7 ∷ 8 ∷ 9 ∷ []) ≡ Ok (Constant 7 ∷ Variable 8 ∷ [], 9 ∷ [])) × (operands_at (types.Small ∷ types.Variable ∷ []) (7 ∷ []) ≡ Err Truncated)
unfolding operand_at operands_at
operands_read = (refl, refl, refl, refl)

rest_read : (store_if true (4 ∷ 9 ∷ []) ≡ Ok (Some 4, 9 ∷ [])) × (store_if false (4 ∷ 9 ∷ []) ≡ Ok (None, 4 ∷ 9 ∷ [])) × (branch_at (0xBF ∷ 0xFE ∷ 9 ∷ []) ≡ Ok (record { sense = true; offset = negsuc 1 }, 9 ∷ [])) × (branch_if true (0x41 ∷ 9 ∷ []) ≡ Ok (Some (record { sense = false; offset = pos 1 }), 9 ∷ [])) × (branch_at (0x80 ∷ 0x14 ∷ 9 ∷ []) ≡ Ok (record { sense = true; offset = pos 20 }, 9 ∷ [])) × (branch_at (0x3F ∷ 0xFF ∷ []) ≡ Ok (record { sense = false; offset = negsuc 0 }, [])) × (branch_at (0x7F ∷ 9 ∷ []) ≡ Ok (record { sense = false; offset = pos 63 }, 9 ∷ [])) × (branch_at (0xFF ∷ 9 ∷ []) ≡ Ok (record { sense = true; offset = pos 63 }, 9 ∷ [])) × (branch_at (0x80 ∷ []) ≡ Err Truncated) × (text_if true (0x94 ∷ 0xA5 ∷ 9 ∷ []) ≡ Ok (9 ∷ [])) × (text_if true (0x14 ∷ 0xA5 ∷ []) ≡ Err Text)
unfolding store_if branch_at branch_if text_if
rest_read = (refl, refl, refl, refl, refl, refl, refl, refl, refl, refl, refl)

-- the whole, with a byte that follows
instructions_read : (instruction_at (0x05 ∷ 0x02 ∷ 0x00 ∷ 0xD4 ∷ 9 ∷ []) ≡ Ok inc_chk) × (instruction_at (0xE0 ∷ 0x3F ∷ 0x01 ∷ 0x97 ∷ 0x00 ∷ 9 ∷ []) ≡ Ok (record { opcode = Call; operands = Constant 407 ∷ []; store = Some 0; branch = None; size = 5 })) × (instruction_at (0xB2 ∷ 0x35 ∷ 0x51 ∷ 0xC6 ∷ 0x85 ∷ 9 ∷ []) ≡ Ok (record { opcode = Print; operands = []; store = None; branch = None; size = 5 })) × (instruction_at (0xB2 ∷ []) ≡ Err Text)
unfolding instruction_at head_at long_head short_head variable_head checked_head operands_at operand_at store_if branch_if branch_at text_if inc_chk
instructions_read = (refl, refl, refl, refl)

more_read : (instruction_at (0xD6 ∷ 0x2F ∷ 0x03 ∷ 0xE8 ∷ 0x02 ∷ 0x00 ∷ []) ≡ Ok multiplication) × (instruction_at (0xA0 ∷ 0x01 ∷ 0xBF ∷ 0xFE ∷ []) ≡ Ok jump_to_itself)
unfolding instruction_at head_at long_head short_head variable_head checked_head operands_at operand_at store_if branch_if branch_at text_if multiplication jump_to_itself
more_read = (refl, refl)

-- the first fault: a type byte is missing, an opcode can't have so many operands, whose bytes aren't read then; an operand is cut off
faults_read : (instruction_at (0xE0 ∷ []) ≡ Err Truncated) × (instruction_at (0xE9 ∷ 0xFF ∷ []) ≡ Err Operands) × (instruction_at (0xE1 ∷ 0xFF ∷ []) ≡ Err Operands) × (instruction_at (0xE1 ∷ 0x57 ∷ []) ≡ Err Truncated)
unfolding instruction_at head_at short_head variable_head checked_head operands_at operand_at store_if branch_if text_if
faults_read = (refl, refl, refl, refl)

-- memories that differ at 0 alone agree from 1 on
agreeing : Agree (1 ∷ 7 ∷ 8 ∷ []) (2 ∷ 7 ∷ 8 ∷ []) 1 2 × (Agree (1 ∷ 7 ∷ []) (2 ∷ 7 ∷ []) 0 1 → ⊥) × (Agree (1 ∷ []) (1 ∷ 2 ∷ []) 0 1 → ⊥)
agreeing = (record { size_is = refl; bytes = same }, λ a. absurd (let e = a.bytes 0 (lit< tt) in omega (arith, e)), λ a. omega (arith, a.size_is))
  where
    same : (k : ℕ) → k < 2 → byte_at (2 ∷ 7 ∷ 8 ∷ []) (1 + k) ≡ byte_at (1 ∷ 7 ∷ 8 ∷ []) (1 + k)
    same zero below = refl
    same (suc zero) below = refl
    same (suc (suc k)) below = absurd (omega (arith, below))

-- ---- what opcodes do

-- what a return without an operand gives
returned : (inputs (record { opcode = Rtrue; operands = []; store = None; branch = None; size = 1 }) ≡ Constant 1 ∷ []) × (inputs (record { opcode = Rfalse; operands = []; store = None; branch = None; size = 1 }) ≡ Constant 0 ∷ []) × (inputs (record { opcode = RetPopped; operands = []; store = None; branch = None; size = 1 }) ≡ Variable 0 ∷ [])
returned = (refl, refl, refl)

-- jz compares with 0, pull takes a word off the stack behind the variable's number, and push gives to the stack
read_and_given : (inputs (record { opcode = Jz; operands = Variable 1 ∷ []; store = None; branch = None; size = 4 }) ≡ Variable 1 ∷ Constant 0 ∷ []) × (inputs (record { opcode = Pull; operands = Constant 16 ∷ []; store = None; branch = None; size = 3 }) ≡ Constant 16 ∷ Variable 0 ∷ []) × (inputs inc_chk ≡ inc_chk.operands) × (target (record { opcode = Push; operands = Constant 3 ∷ []; store = None; branch = None; size = 3 }) ≡ 0) × (target (record { opcode = Load; operands = Constant 1 ∷ []; store = Some 16; branch = None; size = 3 }) ≡ 16)
unfolding inc_chk
read_and_given = (refl, refl, refl, refl, refl)
