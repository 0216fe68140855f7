-- Entries and property defaults of a loaded story.
use Rattle.std.proofs.Common.{ℕ, ◌≤◌, List, arith}
use Rattle.zstory.specs.LoadedStory.{IsSound}
use Rattle.zstory.specs.Objects.{IsObjectCount}
use Rattle.zobj.specs.Entries.{HasEntry, HasDefaults}
use Rattle.zobj.proofs.Tables as tables

pub entry_there : (memory : List ℕ) (objects object : ℕ) → IsSound memory → IsObjectCount memory objects → 1 ≤ object → object ≤ objects → HasEntry memory object
entry_there memory objects object sound counted least most = tables.entry_there memory objects object (tables.story_table memory objects sound counted) least most

pub defaults_there : (memory : List ℕ) (objects : ℕ) → IsSound memory → IsObjectCount memory objects → HasDefaults memory
defaults_there memory objects sound counted =
    let has = tables.story_table memory objects sound counted in
    record { above = has.above; within = omega (arith, has.within) }
