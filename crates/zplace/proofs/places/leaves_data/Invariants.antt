use Rattle.std.proofs.Common.{ℕ, ◌≤◌}
use Rattle.zstory.specs.Objects.{property_table}
use Rattle.zobj.specs.Properties.{list_place}
use Rattle.zplace.specs.Places.{MeetsNoData}
use Rattle.zplace.proofs.places.leaves_data.Given as goal

abbrev pub invariant-loop-below : goal.invariant-loop-below
invariant-loop-below l = (object : ℕ) → 1 ≤ object → object ≤ l.below → MeetsNoData l.story.memory l.places (list_place l.story.memory (property_table l.story.memory object))
