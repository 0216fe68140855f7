use Rattle.std.proofs.Common.{◌≡◌, ◌++◌, take}
use Rattle.std.specs.Prelude.{flat_map}
use Rattle.zperform.specs.Showing.{range_line}
use Rattle.zperform.proofs.claims.add_ranges.Given as goal

-- the lines so far are those of the first ranges
abbrev pub invariant-loop-range : goal.invariant-loop-range
invariant-loop-range l = l.text.items ≡ l.fn.text.items ++ flat_map range_line (take l.range-index l.ranges)
