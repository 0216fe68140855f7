use Rattle.std.proofs.Common.{ℕ, ◌≤◌}
use Rattle.zstory.specs.Objects.{property_table}
use Rattle.zplace.specs.Bytes.{IsTableFrame, IsChanging}
use Rattle.zplace.proofs.property_tables.are_frames_still.Given as goal

abbrev pub invariant-loop-below : goal.invariant-loop-below
invariant-loop-below l = (object : ℕ) → 1 ≤ object → object ≤ l.below → (p : ℕ) → IsTableFrame l.story.memory (property_table l.story.memory object) p → IsChanging l.story p → ⊥
