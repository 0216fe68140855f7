use Rattle.std.proofs.Common.{◌≡◌, ◌++◌, length, take}
use Rattle.std.specs.List.{flat_map}
use Rattle.zcert.specs.Numbers.{number}
use Rattle.zcert.specs.Numbers as numbers
use Rattle.zcert.specs.Spelling.{range_bytes}
use Rattle.zcert.proofs.writing.put_ranges.Given as goal

abbrev pub invariant-loop-range : goal.invariant-loop-range
invariant-loop-range l = l.out.items ≡ (l.fn.out.items ++ number numbers.RangeCount (length l.ranges)) ++ flat_map range_bytes (take l.range-index l.ranges)
