use Rattle.std.proofs.Common.{◌≡◌, ◌++◌, take}
use Rattle.zcert.specs.Spelling.{values_bytes}
use Rattle.zcert.proofs.writing.put_values.Given as goal

abbrev pub invariant-loop-value : goal.invariant-loop-value
invariant-loop-value g l = l.out.items ≡ l.fn.out.items ++ values_bytes g.V.Spelled.format (take l.value-index l.values)
