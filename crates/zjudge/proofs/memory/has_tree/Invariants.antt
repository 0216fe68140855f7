use Rattle.std.proofs.Common.{ℕ, ◌≤◌}
use Rattle.zjudge.specs.Memory.{HasLinks}
use Rattle.zjudge.proofs.memory.has_tree.Given as goal

abbrev pub invariant-loop-below : goal.invariant-loop-below
invariant-loop-below l = (object : ℕ) → 1 ≤ object → object ≤ l.below → HasLinks l.story l.saved object
