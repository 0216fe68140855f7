-- What a lister finds at fault, in four stories of a few instructions, computed.
use Rattle.std.proofs.Common.{◌≡◌, inl, inr, ℕ, pos, List, [], ◌∷◌, ◌++◌, replicate, Some, None, Result, Ok, refl, sym, ap, ◌∙◌, arith}
use Rattle.std.proofs.lemmas.Int.{ints}
use Rattle.zstory.specs.LoadedStory.{LoadedStory}
use Rattle.zcode.specs.declared.error.DecodeError.{DecodeError}
use Rattle.zcode.specs.declared.error.DecodeError.TheVariants.{NoSuchOpcode, Operands}
use Rattle.zcode.specs.declared.instr.Operand.TheVariants.{Constant, Variable}
use Rattle.zcode.specs.declared.opcode.Opcode.TheVariants as opcodes
use Rattle.zcode.specs.Instruction.{Instruction}
use Rattle.zcode.specs.Reading.{instruction_at, head_at, long_head, short_head, variable_head, checked_head, operands_at, operand_at, store_if, branch_if, text_if}
use Rattle.zlist.specs.declared.list_error.ListError.TheVariants.{Decode, TwoRoutines, ComputedJump, OutOfMemory}
use Rattle.zlist.specs.declared.owner.Owner.TheVariants.{Main, Routine}
use Rattle.zlist.specs.Listed.{ComesFirst, IsCalled, IsFault, spelled}

-- the code is at 64, and the first instruction at this place
at : ℕ → List ℕ → LoadedStory
at first code = record { memory = replicate 7 0 ++ first ∷ replicate 56 0 ++ code; objects = 0 }

-- ---- at 65 `call` of the routine at 64, which has no locals, so that its code is the main code; then `rtrue`

itself : LoadedStory
itself = at 65 (0 ∷ 0xE0 ∷ 0x3F ∷ 0x00 ∷ 0x20 ∷ 0x00 ∷ 0xB0 ∷ [])

calling : ℕ → Instruction
calling packed = record { opcode = opcodes.Call; operands = Constant packed ∷ []; store = Some 0; branch = None; size = 5 }

calls_itself : spelled itself.memory (pos 65) ≡ Ok (calling 32)
unfolding itself at calling instruction_at head_at variable_head checked_head operands_at operand_at store_if branch_if text_if
calls_itself = refl

is_called : IsCalled itself 64
unfolding itself at calling
is_called = (pos 65, calling 32, (λ set closed callees first. first), calls_itself, refl)

shared : IsFault itself (TwoRoutines 65)
unfolding itself at
shared = (Main, Routine 64, (λ e. cc), (65, refl, λ set closed first. first), (65, (is_called, refl), λ set closed first. first))

-- no jump by a variable stands there
no_jump : IsFault itself (ComputedJump 65) → ⊥
unfolding calling
no_jump (listed, i, there, jumps) = by_opcode (same_ok (calling 32) i (sym calls_itself ∙ there)) jumps.0
  where
    same_ok : (a b : Instruction) → ◌≡◌ {A = Result Instruction DecodeError} (Ok a) (Ok b) → a ≡ b
    same_ok a b e = cc

    by_opcode : calling 32 ≡ i → i.opcode ≡ opcodes.Jump → ⊥
    by_opcode same is = let e : opcodes.Call ≡ i.opcode = ap (λ (k : Instruction). k.opcode) same in cc

-- ---- at 64 a jump as far as local 1 says

jumps : LoadedStory
jumps = at 64 (0xAC ∷ 0x01 ∷ [])

computed : IsFault jumps (ComputedJump 64)
unfolding jumps at instruction_at head_at short_head checked_head operands_at operand_at store_if branch_if text_if
computed = ((λ set closed callees first. first), record { opcode = opcodes.Jump; operands = Variable 1 ∷ []; store = None; branch = None; size = 2 }, refl, (refl, 1, refl))

-- ---- at 64 no opcode, as the first thing

nothing : LoadedStory
nothing = at 64 (0x00 ∷ 0x00 ∷ 0x00 ∷ [])

unspelled : IsFault nothing (Decode (pos 64) NoSuchOpcode)
unfolding nothing at instruction_at head_at long_head checked_head
unspelled = inl ((λ set closed callees first. first), refl)

-- ---- at 64 `call` of what has 16 locals, at 70, where an instruction stands if it's taken for one

many_locals : LoadedStory
many_locals = at 64 (0xE0 ∷ 0x3F ∷ 0x00 ∷ 0x23 ∷ 0x00 ∷ 0xB0 ∷ 16 ∷ 0 ∷ 0 ∷ 0 ∷ [])

headless : IsFault many_locals (Decode (pos 70) Operands)
unfolding many_locals at calling instruction_at head_at long_head variable_head checked_head operands_at operand_at store_if branch_if text_if
headless = inr (70, refl, ((pos 64, calling 35, (λ set closed callees first. first), refl, refl), refl), λ other unspelled. let e = unspelled.1 in cc)

-- the lower place comes first, and of one place what isn't there, before what is shared and what jumps anywhere
in_order : ComesFirst (ComputedJump 64) (TwoRoutines 65) × ComesFirst (Decode (pos 64) Operands) (TwoRoutines 64) × ComesFirst (TwoRoutines 64) (ComputedJump 64) × ComesFirst (TwoRoutines 64) (TwoRoutines 64) × (ComesFirst (ComputedJump 64) (TwoRoutines 64) → ⊥) × (ComesFirst (TwoRoutines 65) (ComputedJump 64) → ⊥)
in_order = (inl (omega (arith, ints)), inr (refl, omega arith), inr (refl, omega arith), inr (refl, omega arith), late, lower)
  where
    late : ComesFirst (ComputedJump 64) (TwoRoutines 64) → ⊥
    late (inl less) = omega (arith, ints, less)
    late (inr same) = omega (arith, same.1)

    lower : ComesFirst (TwoRoutines 65) (ComputedJump 64) → ⊥
    lower (inl less) = omega (arith, ints, less)
    lower (inr same) = omega (arith, ints, same.0)

no_memory : IsFault many_locals OutOfMemory → ⊥
no_memory fault = fault
