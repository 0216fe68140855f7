-- Where instructions lead, as a lister tells, computed.
use Rattle.std.proofs.Common.{◌≡◌, ℤ, pos, negsuc, true, false, Bool, List, [], ◌∷◌, map, replicate, Option, Some, None, Ok, Err, refl}
use Rattle.zcode.specs.declared.error.DecodeError.TheVariants.{Truncated, Operands}
use Rattle.zcode.specs.declared.instr.Branch.{Branch}
use Rattle.zcode.specs.declared.instr.Destination.TheVariants.{Relative, ReturnFalse, ReturnTrue}
use Rattle.zcode.specs.declared.instr.Operand.TheVariants.{Constant, Variable}
use Rattle.zcode.specs.declared.opcode.Opcode.{Opcode}
use Rattle.zcode.specs.declared.opcode.Opcode.TheVariants as opcodes
use Rattle.zcode.specs.Instruction.{Instruction}
use Rattle.zlist.specs.declared.list_error.ListError.TheVariants.{Decode, TwoRoutines, ComputedJump, OutOfMemory}
use Rattle.zlist.specs.Listed.{spelled, ends, may_answer, branched, goes_on, aside, behind, next_place, aside_place, calls, callee, begins, place_of, number_of}

-- play goes on behind all but eight
ending : List Opcode
ending = opcodes.Ret ∷ opcodes.Jump ∷ opcodes.Rtrue ∷ opcodes.Rfalse ∷ opcodes.PrintRet ∷ opcodes.Restart ∷ opcodes.RetPopped ∷ opcodes.Quit ∷ []

others : List Opcode
others =
    opcodes.Je ∷ opcodes.Jl ∷ opcodes.Jg ∷ opcodes.DecChk ∷ opcodes.IncChk ∷ opcodes.Jin ∷ opcodes.Test ∷ opcodes.Or ∷ opcodes.And ∷
    opcodes.TestAttr ∷ opcodes.SetAttr ∷ opcodes.ClearAttr ∷ opcodes.Store ∷ opcodes.InsertObj ∷ opcodes.Loadw ∷ opcodes.Loadb ∷ opcodes.GetProp ∷
    opcodes.GetPropAddr ∷ opcodes.GetNextProp ∷ opcodes.Add ∷ opcodes.Sub ∷ opcodes.Mul ∷ opcodes.Div ∷ opcodes.Mod ∷ opcodes.Jz ∷
    opcodes.GetSibling ∷ opcodes.GetChild ∷ opcodes.GetParent ∷ opcodes.GetPropLen ∷ opcodes.Inc ∷ opcodes.Dec ∷ opcodes.PrintAddr ∷
    opcodes.RemoveObj ∷ opcodes.PrintObj ∷ opcodes.PrintPaddr ∷ opcodes.Load ∷ opcodes.Not ∷ opcodes.Print ∷ opcodes.Nop ∷ opcodes.Save ∷
    opcodes.Restore ∷ opcodes.Pop ∷ opcodes.NewLine ∷ opcodes.ShowStatus ∷ opcodes.Verify ∷ opcodes.Call ∷ opcodes.Storew ∷ opcodes.Storeb ∷
    opcodes.PutProp ∷ opcodes.Sread ∷ opcodes.PrintChar ∷ opcodes.PrintNum ∷ opcodes.Random ∷ opcodes.Push ∷ opcodes.Pull ∷ []

ended : (map ends ending ≡ replicate 8 true) × (map ends others ≡ replicate 55 false)
unfolding ending others
ended = (refl, refl)

-- where there is a branch, its condition may come out both ways, but not so that `restore` answers
branch : Bool → ℤ → Option Branch
branch sense offset = Some (record { sense = sense; offset = offset })

answered : (may_answer opcodes.Restore true ≡ false) × (may_answer opcodes.Restore false ≡ true) × (may_answer opcodes.Save true ≡ true) × (may_answer opcodes.Save false ≡ true) × (may_answer opcodes.Je true ≡ true) × (may_answer opcodes.Je false ≡ true)
answered = (refl, refl, refl, refl, refl, refl)

gone_on : (goes_on opcodes.Nop None ≡ true) × (goes_on opcodes.Quit None ≡ false) × (goes_on opcodes.Je (branch true (pos 9)) ≡ true) × (goes_on opcodes.Je (branch false (pos 9)) ≡ true) × (goes_on opcodes.Restore (branch true (pos 9)) ≡ true) × (goes_on opcodes.Restore (branch false (pos 9)) ≡ false)
unfolding branch
gone_on = (refl, refl, refl, refl, refl, refl)

branches : (branched (Relative (negsuc 4)) ≡ Some (negsuc 4)) × (branched ReturnFalse ≡ None) × (branched ReturnTrue ≡ None)
branches = (refl, refl, refl)

-- 65,533 is -3; offsets of 0 and 1 return
led_aside : (aside opcodes.Jump (Constant 9 ∷ []) None ≡ Some (pos 7)) × (aside opcodes.Jump (Constant 65533 ∷ []) None ≡ Some (negsuc 4)) × (aside opcodes.Jump (Variable 9 ∷ []) None ≡ None) × (aside opcodes.Je [] (branch true (pos 9)) ≡ Some (pos 7)) × (aside opcodes.Je [] (branch false (negsuc 2)) ≡ Some (negsuc 4)) × (aside opcodes.Je [] (branch true (pos 0)) ≡ None) × (aside opcodes.Je [] (branch true (pos 1)) ≡ None) × (aside opcodes.Restore [] (branch true (pos 9)) ≡ None) × (aside opcodes.Restore [] (branch false (pos 9)) ≡ Some (pos 7)) × (aside opcodes.Nop [] None ≡ None)
unfolding branch
led_aside = (refl, refl, refl, refl, refl, refl, refl, refl, refl, refl)

three : Opcode → Option Branch → Instruction
three opcode led = record { opcode = opcode; operands = []; store = None; branch = led; size = 3 }

places : (behind (negsuc 0) (three opcodes.Nop None) ≡ pos 2) × (next_place (pos 70) (three opcodes.Nop None) ≡ Some (pos 73)) × (next_place (pos 70) (three opcodes.Quit None) ≡ None) × (aside_place (pos 70) (three opcodes.Je (branch true (pos 9))) ≡ Some (pos 80)) × (aside_place (pos 70) (three opcodes.Je (branch true (pos 1))) ≡ None)
unfolding three branch
places = (refl, refl, refl, refl, refl)

-- `call` alone calls, and a constant that isn't 0 names a routine
callers : (map calls (opcodes.Call ∷ []) ≡ true ∷ []) × (map calls ending ≡ replicate 8 false) × (callee opcodes.Call (Constant 33 ∷ Constant 5 ∷ []) ≡ Some 66) × (callee opcodes.Call (Constant 0 ∷ []) ≡ None) × (callee opcodes.Call (Variable 33 ∷ []) ≡ None) × (callee opcodes.Call [] ≡ None) × (callee opcodes.Ret (Constant 33 ∷ []) ≡ None)
unfolding ending
callers = (refl, refl, refl, refl, refl, refl, refl)

uncalled : List Opcode
uncalled =
    opcodes.Je ∷ opcodes.Jl ∷ opcodes.Jg ∷ opcodes.DecChk ∷ opcodes.IncChk ∷ opcodes.Jin ∷ opcodes.Test ∷ opcodes.Or ∷ opcodes.And ∷
    opcodes.TestAttr ∷ opcodes.SetAttr ∷ opcodes.ClearAttr ∷ opcodes.Store ∷ opcodes.InsertObj ∷ opcodes.Loadw ∷ opcodes.Loadb ∷ opcodes.GetProp ∷
    opcodes.GetPropAddr ∷ opcodes.GetNextProp ∷ opcodes.Add ∷ opcodes.Sub ∷ opcodes.Mul ∷ opcodes.Div ∷ opcodes.Mod ∷ opcodes.Jz ∷
    opcodes.GetSibling ∷ opcodes.GetChild ∷ opcodes.GetParent ∷ opcodes.GetPropLen ∷ opcodes.Inc ∷ opcodes.Dec ∷ opcodes.PrintAddr ∷
    opcodes.RemoveObj ∷ opcodes.PrintObj ∷ opcodes.PrintPaddr ∷ opcodes.Load ∷ opcodes.Not ∷ opcodes.Print ∷ opcodes.Nop ∷ opcodes.Save ∷
    opcodes.Restore ∷ opcodes.Pop ∷ opcodes.NewLine ∷ opcodes.ShowStatus ∷ opcodes.Verify ∷ opcodes.Storew ∷ opcodes.Storeb ∷ opcodes.PutProp ∷
    opcodes.Sread ∷ opcodes.PrintChar ∷ opcodes.PrintNum ∷ opcodes.Random ∷ opcodes.Push ∷ opcodes.Pull ∷ []

none_calls : map calls uncalled ≡ replicate 54 false
unfolding uncalled
none_calls = refl

-- behind a head of at most 15 locals, which lies in memory
heads : (begins (1 ∷ 0 ∷ 0 ∷ []) 0 ≡ Ok 3) × (begins (1 ∷ 0 ∷ []) 0 ≡ Err Truncated) × (begins (15 ∷ replicate 30 0) 0 ≡ Ok 31) × (begins (15 ∷ replicate 29 0) 0 ≡ Err Truncated) × (begins (16 ∷ replicate 40 0) 0 ≡ Err Operands) × (begins (0 ∷ 0 ∷ []) 1 ≡ Ok 2) × (begins (0 ∷ 0 ∷ []) 2 ≡ Err Truncated)
heads = (refl, refl, refl, refl, refl, refl, refl)

before_all : spelled (0xB4 ∷ []) (negsuc 0) ≡ Err Truncated
before_all = refl

-- of the faults of one place
numbers : (number_of (Decode (pos 7) Truncated) ≡ 1) × (number_of (TwoRoutines 7) ≡ 2) × (number_of (ComputedJump 7) ≡ 3) × (number_of OutOfMemory ≡ 4)
numbers = (refl, refl, refl, refl)

named : (place_of (Decode (negsuc 0) Truncated) ≡ negsuc 0) × (place_of (TwoRoutines 7) ≡ pos 7) × (place_of (ComputedJump 7) ≡ pos 7)
named = (refl, refl, refl)
