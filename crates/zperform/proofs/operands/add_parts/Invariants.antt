use Rattle.std.proofs.Common.{◌≡◌, ◌++◌, take}
use Rattle.zperform.specs.Numbered.{numbered}
use Rattle.zperform.specs.Operands.{operand_part}
use Rattle.zperform.proofs.operands.add_parts.Given as goal

-- the operands before this place were added
abbrev pub invariant-loop-place : goal.invariant-loop-place
invariant-loop-place l = l.text.items ≡ l.fn.text.items ++ numbered (operand_part l.opcode) 0 (take l.place l.operands)
