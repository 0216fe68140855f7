use Rattle.std.proofs.Common.{◌≡◌, ◌-◌, ◌<◌, ◌||◌, ℕ, length}
use Rattle.zdomain.specs.Marks.{is_marked}
use Rattle.zpairs.specs.Fixed.{is_size_place}
use Rattle.zpairs.proofs.closed.mark_sizes.Given as goal

abbrev pub invariant-loop-end : goal.invariant-loop-end
invariant-loop-end l = (p : ℕ) → p < 65536 → (is_marked l.marks p || is_size_place (length l.memory) l.memory l.at p) ≡ (is_marked l.initial.marks p || is_size_place (length l.memory) l.memory l.first p)

abbrev pub decreases-loop-end : goal.decreases-loop-end
decreases-loop-end l = length l.memory - l.at
