use Rattle.std.proofs.Common.{◌≡◌}
use Rattle.zpairs.specs.Cells.{has_none}
use Rattle.zpairs.specs.Fixed.{is_closed}
use Rattle.zpairs.proofs.finding.are_open.Given as goal

abbrev pub invariant-loop-behind : goal.invariant-loop-behind
invariant-loop-behind l = l.free ≡ has_none (is_closed (record { story = l.marked.story.now; ranges = l.marked.ranges.now })) l.place l.behind
