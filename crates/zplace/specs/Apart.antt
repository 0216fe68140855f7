-- Bytes that a test of unchanging ones tells apart.
use Rattle.std.specs.Prelude.{ℕ}
use Rattle.zstory.specs.LoadedStory.{LoadedStory}
use Rattle.zplace.specs.Bytes.{IsWithin, IsObjectState}

-- two pieces of memory share no byte
abbrev pub AreApart : ℕ → ℕ → ℕ → ℕ → Type 0
AreApart from size other others = (p : ℕ) → IsWithin from size p → IsWithin other others p → ⊥

-- none of so many bytes from a place on is of an object's attributes or of its place in the tree
abbrev pub HasNoObjectState : LoadedStory → ℕ → ℕ → Type 0
HasNoObjectState story from size = (p : ℕ) → IsWithin from size p → IsObjectState story p → ⊥
