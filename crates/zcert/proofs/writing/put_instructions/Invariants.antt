use Rattle.std.proofs.Common.{◌≡◌, ◌++◌, length, take}
use Rattle.std.specs.List.{flat_map}
use Rattle.zcert.specs.Numbers.{number}
use Rattle.zcert.specs.Numbers as numbers
use Rattle.zcert.specs.Spelling.{instruction_bytes}
use Rattle.zcert.proofs.writing.put_instructions.Given as goal

abbrev pub invariant-loop-index : goal.invariant-loop-index
invariant-loop-index g l =
    l.out.items
    ≡ (l.fn.out.items ++ number numbers.InstructionCount (length l.contents.instructions.instructions))
    ++ flat_map (instruction_bytes g.V.Spelled.format) (take l.index l.contents.instructions.instructions)
