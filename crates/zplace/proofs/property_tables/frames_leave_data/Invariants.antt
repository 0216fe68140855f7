use Rattle.std.proofs.Common.{ℕ, ◌≤◌}
use Rattle.zstory.specs.Objects.{property_table}
use Rattle.zplace.specs.Bytes.{IsTableFrame}
use Rattle.zplace.specs.Tables.{IsPropertyData}
use Rattle.zplace.proofs.property_tables.frames_leave_data.Given as goal

abbrev pub invariant-loop-below : goal.invariant-loop-below
invariant-loop-below l = (object : ℕ) → 1 ≤ object → object ≤ l.below → (p : ℕ) → IsTableFrame l.story.memory (property_table l.story.memory object) p → IsPropertyData l.story p → ⊥
