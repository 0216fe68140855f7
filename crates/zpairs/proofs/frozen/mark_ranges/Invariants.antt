use Rattle.std.proofs.Common.{◌≡◌, ◌<◌, ◌||◌, ℕ, length}
use Rattle.zdomain.specs.Marks.{is_marked}
use Rattle.zpairs.specs.Frozen.{frozen_by}
use Rattle.zpairs.proofs.frozen.mark_ranges.Given as goal

abbrev pub invariant-loop-left : goal.invariant-loop-left
invariant-loop-left l = record {
  so_far : (p : ℕ) → p < 65536 → (is_marked l.marks p || frozen_by l.left p) ≡ frozen_by l.ranges p;
}

abbrev pub decreases-loop-left : goal.decreases-loop-left
decreases-loop-left l = length l.left
