use Rattle.std.proofs.Common.{◌≡◌, ℕ, ◌<◌, ◌≤◌, length}
use Rattle.std.specs.Prelude.{slice_index_or}
use Rattle.zdomain.specs.Marks.{rest_of}
use Rattle.zdomain.proofs.marks.turn_within.Given as goal

abbrev pub invariant-loop-k : goal.invariant-loop-k
invariant-loop-k g l = record {
  long : length l.bytes ≡ length l.initial.bytes;
  turned : (j : ℕ) → j < l.k → slice_index_or l.bytes j 0 ≡ rest_of (slice_index_or l.whole j 0) (slice_index_or l.initial.bytes j 0);
  left : (j : ℕ) → l.k ≤ j → slice_index_or l.bytes j 0 ≡ slice_index_or l.initial.bytes j 0;
}
