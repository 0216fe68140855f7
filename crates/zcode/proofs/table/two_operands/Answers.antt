use Rattle.std.proofs.Common.{sym, arith}
use Rattle.std.proofs.lemmas.List.{get_or_past}
use Rattle.zcode.specs.declared.table.OperandCount.TheVariants.{Two}
use Rattle.zcode.specs.Opcodes.{table, missing}
use Rattle.zcode.proofs.table.two_operands.Goals as goal

pub returns-in_default : goal.returns-in_default
returns-in_default c = sym (get_or_past (table Two) c.args.number missing (omega arith))
