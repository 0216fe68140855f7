use Rattle.std.proofs.Common.{ℕ, ◌≤◌}
use Rattle.zstory.specs.Objects.{property_table}
use Rattle.zplace.specs.Tables.{IsPropertyTable}
use Rattle.zplace.proofs.property_tables.are_tables.Given as goal

abbrev pub invariant-loop-below : goal.invariant-loop-below
invariant-loop-below l = (object : ℕ) → 1 ≤ object → object ≤ l.below → IsPropertyTable l.story (property_table l.story.memory object)
