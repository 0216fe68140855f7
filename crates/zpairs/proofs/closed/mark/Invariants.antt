use Rattle.std.proofs.Common.{◌≡◌, ◌+◌, ◌≤◌, ◌&&◌, ◌||◌, ℕ, min}
use Rattle.std.specs.Prelude.{nat_le, nat_lt, max}
use Rattle.zdomain.specs.Marks.{is_marked}
use Rattle.zpairs.proofs.closed.mark.Given as goal

abbrev pub invariant-loop-place : goal.invariant-loop-place
invariant-loop-place l = record {
  above : l.from ≤ l.place;
  below : l.place ≤ max l.from (min (l.from + l.size) 65536);
  so_far : (p : ℕ) → is_marked l.marks p ≡ (is_marked l.initial.marks p || (nat_le l.from p && nat_lt p l.place));
}
