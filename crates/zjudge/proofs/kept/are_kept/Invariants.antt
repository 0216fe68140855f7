use Rattle.std.proofs.Common.{ℕ, ◌≤◌, ◌<◌}
use Rattle.zjudge.specs.Memory.{IsKept}
use Rattle.zjudge.proofs.kept.are_kept.Given as goal

abbrev pub invariant-loop-place : goal.invariant-loop-place
invariant-loop-place l = (p : ℕ) → l.from ≤ p → p < l.place → IsKept l.story l.saved p
