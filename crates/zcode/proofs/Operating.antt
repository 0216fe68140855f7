-- What an instruction reads.
use Rattle.std.proofs.Common.{◌≤◌, ◌+◌, ℕ, length, arith}
use Rattle.zcode.specs.declared.opcode.Opcode.{Opcode}
use Rattle.zcode.specs.declared.opcode.Opcode.TheVariants.{Je}
use Rattle.zcode.specs.Opcodes.{TakesOperands}
use Rattle.zcode.specs.Operation.{implied}

-- what is implied stands behind at most one operand
pub few_inputs : (opcode : Opcode) (n : ℕ) → TakesOperands opcode n → n + length (implied opcode) ≤ 4
few_inputs Je n h = omega (arith, h.1)
few_inputs _ n h = omega (arith, h.1)

pub ruleset inputting = (few_inputs)
