-- Values of what a story lists, each worked out by hand.
use Rattle.std.proofs.Common.{◌≡◌, Bool, true, false, List, [], ◌∷◌, refl, Some, None, Ok, Err}
use Rattle.std.specs.Prelude.{ℤ, pos, negsuc, Option}
use Rattle.zcode.specs.declared.error.DecodeError.TheVariants.{Truncated, Operands}
use Rattle.zcode.specs.declared.instr.Branch.{Branch}
use Rattle.zcode.specs.declared.instr.Operand.{Operand}
use Rattle.zcode.specs.declared.instr.Operand.TheVariants.{Constant, Variable}
use Rattle.zcode.specs.declared.opcode.Opcode.{Opcode}
use Rattle.zcode.specs.declared.opcode.Opcode.TheVariants as opcodes
use Rattle.zcode.specs.Instruction.{Instruction}
use Rattle.zlist.specs.declared.owner.Owner.TheVariants.{Main, Routine}
use Rattle.zlist.specs.Listed.{aside_place, begins, callee, next_place, owner_of, spelled}

abbrev pub three : Opcode → List Operand → Option Branch → Instruction
three opcode operands behind = record { opcode = opcode; operands = operands; store = None; branch = behind; size = 3 }

abbrev pub at : Bool → ℤ → Option Branch
at sense offset = Some (record { sense = sense; offset = offset })

-- a branch leads behind itself and aside, but not aside where it returns; at 10 with 3 bytes the offset 7 is 10 + 3 + 7 - 2
both : (next_place (pos 10) (three opcodes.Jz [] (at true (pos 7))) ≡ Some (pos 13)) × (aside_place (pos 10) (three opcodes.Jz [] (at true (pos 7))) ≡ Some (pos 18))
both = (refl, refl)

returning : (next_place (pos 10) (three opcodes.Jz [] (at false (pos 1))) ≡ Some (pos 13)) × (aside_place (pos 10) (three opcodes.Jz [] (at false (pos 1))) ≡ None) × (aside_place (pos 10) (three opcodes.Jz [] (at true (pos 0))) ≡ None)
returning = (refl, refl, refl)

-- below the story's first byte
below : aside_place (pos 10) (three opcodes.Jz [] (at true (negsuc 19))) ≡ Some (negsuc 8)
below = refl

-- a jump leads aside alone, where a constant says how far: 65,534 is -2, so back to 10 + 3 - 2 - 2
jumping : (next_place (pos 10) (three opcodes.Jump (Constant 65534 ∷ []) None) ≡ None) × (aside_place (pos 10) (three opcodes.Jump (Constant 65534 ∷ []) None) ≡ Some (pos 9)) × (aside_place (pos 10) (three opcodes.Jump (Variable 1 ∷ []) None) ≡ None)
jumping = (refl, refl, refl)

-- behind a failed restore play goes on by its condition, which doesn't hold: behind it for one sense, aside for the other
restoring : (next_place (pos 10) (three opcodes.Restore [] (at true (pos 7))) ≡ Some (pos 13)) × (aside_place (pos 10) (three opcodes.Restore [] (at true (pos 7))) ≡ None) × (next_place (pos 10) (three opcodes.Restore [] (at false (pos 7))) ≡ None) × (aside_place (pos 10) (three opcodes.Restore [] (at false (pos 7))) ≡ Some (pos 18))
restoring = (refl, refl, refl, refl)

saving : (next_place (pos 10) (three opcodes.Save [] (at true (pos 7))) ≡ Some (pos 13)) × (aside_place (pos 10) (three opcodes.Save [] (at true (pos 7))) ≡ Some (pos 18))
saving = (refl, refl)

-- nothing comes behind a return, the end or a new beginning; something does behind all else
ending : (next_place (pos 10) (three opcodes.Ret [] None) ≡ None) × (next_place (pos 10) (three opcodes.Rtrue [] None) ≡ None) × (next_place (pos 10) (three opcodes.Rfalse [] None) ≡ None) × (next_place (pos 10) (three opcodes.PrintRet [] None) ≡ None) × (next_place (pos 10) (three opcodes.RetPopped [] None) ≡ None) × (next_place (pos 10) (three opcodes.Quit [] None) ≡ None) × (next_place (pos 10) (three opcodes.Restart [] None) ≡ None)
ending = (refl, refl, refl, refl, refl, refl, refl)

going_on : (next_place (pos 10) (three opcodes.Print [] None) ≡ Some (pos 13)) × (next_place (pos 10) (three opcodes.Call [] None) ≡ Some (pos 13)) × (next_place (pos 10) (three opcodes.Sread [] None) ≡ Some (pos 13)) × (next_place (pos 10) (three opcodes.Pop [] None) ≡ Some (pos 13))
going_on = (refl, refl, refl, refl)

-- a routine is called by twice a constant that isn't 0
calling : (callee opcodes.Call (Constant 407 ∷ Variable 1 ∷ []) ≡ Some 814) × (callee opcodes.Call (Constant 0 ∷ []) ≡ None) × (callee opcodes.Call (Variable 1 ∷ []) ≡ None) × (callee opcodes.Store (Constant 407 ∷ []) ≡ None)
calling = (refl, refl, refl, refl)

-- Code begins behind the locals' words. A head may end with memory, has at most 15 locals, and is judged by its count first.
beginning : (begins (9 ∷ 1 ∷ 0 ∷ 5 ∷ []) 1 ≡ Ok 4) × (begins (9 ∷ 1 ∷ 0 ∷ []) 1 ≡ Err Truncated) × (begins (9 ∷ 0 ∷ []) 1 ≡ Ok 2) × (begins (9 ∷ []) 1 ≡ Err Truncated) × (begins (16 ∷ []) 0 ≡ Err Operands) × (begins (15 ∷ []) 0 ≡ Err Truncated)
beginning = (refl, refl, refl, refl, refl, refl)

-- whose code a number is
owners : (owner_of (814 ∷ 900 ∷ []) 0 ≡ Main) × (owner_of (814 ∷ 900 ∷ []) 1 ≡ Routine 814) × (owner_of (814 ∷ 900 ∷ []) 2 ≡ Routine 900)
owners = (refl, refl, refl)

-- nothing stands below memory or behind it
outside : (spelled (186 ∷ []) (negsuc 0) ≡ Err Truncated)
outside = refl
