use Rattle.std.proofs.Common.{◌≡◌, ◌+◌, ◌≤◌, ◌&&◌, ◌||◌, ℕ}
use Rattle.std.specs.Prelude.{nat_le, nat_lt, max}
use Rattle.zdomain.specs.Marks.{is_marked}
use Rattle.zpairs.proofs.frozen.mark.Given as goal

abbrev pub invariant-loop-place : goal.invariant-loop-place
invariant-loop-place l = record {
  above : l.fn.range.first ≤ l.place;
  below : l.place ≤ max l.fn.range.first (l.fn.range.last + 1);
  so_far : (p : ℕ) → is_marked l.marks p ≡ (is_marked l.initial.marks p || (nat_le l.fn.range.first p && nat_lt p l.place));
}
