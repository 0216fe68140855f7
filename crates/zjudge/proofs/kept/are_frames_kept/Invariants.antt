use Rattle.std.proofs.Common.{ℕ, ◌≤◌}
use Rattle.zstory.specs.Objects.{property_table}
use Rattle.zplace.specs.Bytes.{IsTableFrame}
use Rattle.zjudge.specs.Memory.{AreKept}
use Rattle.zjudge.proofs.kept.are_frames_kept.Given as goal

abbrev pub invariant-loop-below : goal.invariant-loop-below
invariant-loop-below l = (object : ℕ) → 1 ≤ object → object ≤ l.below → AreKept l.story l.saved (IsTableFrame l.story.memory (property_table l.story.memory object))
