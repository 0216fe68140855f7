-- Property tables of a loaded story.
use Rattle.std.proofs.Common.{ℕ, ◌+◌, ◌≤◌, List, length}
use Rattle.zstory.specs.LoadedStory.{IsSound}
use Rattle.zstory.specs.Objects.{object_place, IsObjectCount}
use Rattle.zobj.proofs.Tables.{story_table, entry_there}

-- the entry of an object is whole in memory
pub entry_inside : (memory : List ℕ) (objects object : ℕ) → IsSound memory → IsObjectCount memory objects → 1 ≤ object → object ≤ objects → object_place memory object + 9 ≤ length memory
entry_inside memory objects object sound counted least most = (entry_there memory objects object (story_table memory objects sound counted) least most).within
