-- The links of a story's objects.
use Rattle.std.proofs.Common.{ℕ, ◌≤◌, ◌↔◌, List}
use Rattle.zstory.specs.LoadedStory.{IsSound}
use Rattle.zstory.specs.Objects.{IsObjectCount}
use Rattle.zobj.specs.declared.tree.Link.{Link}
use Rattle.zobj.specs.declared.tree.Link.TheVariants.{Parent, Sibling, Child}
use Rattle.zobj.specs.Entries.{HasEntry}
use Rattle.zobj.specs.Tree.{linked}
use Rattle.zobj.proofs.Tables.{story_table, entry_there}

pub entry_of : (memory : List ℕ) (objects object : ℕ) → IsSound memory → IsObjectCount memory objects → 1 ≤ object → object ≤ objects → HasEntry memory object
entry_of memory objects object sound counted least most = entry_there memory objects object (story_table memory objects sound counted) least most

-- parent, sibling and child are objects, or none
abbrev pub EachIs : List ℕ → ℕ → ℕ → Type 0
EachIs memory object objects = (linked Parent memory object ≤ objects) × (linked Sibling memory object ≤ objects) × (linked Child memory object ≤ objects)

-- so is whatever a link leads to
pub each_where : (memory : List ℕ) (object objects : ℕ) {A : Type 0} → A ↔ EachIs memory object objects → A ↔ ((link : Link) → linked link memory object ≤ objects)
each_where memory object objects {A} parts = (λ a. each (parts.0 a), λ all. parts.1 (all Parent, all Sibling, all Child))
  where
    each : EachIs memory object objects → (link : Link) → linked link memory object ≤ objects
    each is Parent = is.0
    each is Sibling = is.1
    each is Child = is.2
