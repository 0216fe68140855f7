-- What is asked of each abbreviation, of tables and of each frozen range (own).
use Rattle.std.specs.Prelude.{◌≡◌, ℕ, ◌+◌, ◌*◌, ◌-◌, ◌<◌, ◌≤◌}
use Rattle.zstory.specs.LoadedStory.{LoadedStory, globals, object_table, static_base}
use Rattle.ztext.specs.Abbreviations.{IsPlainAbbreviation}
use Rattle.zcert.specs.declared.parts.Range.{Range}
use Rattle.zplace.specs.Bytes.{IsWithin, IsChanging, IsUnchanging, IsAbbreviation}

-- it is whole and uses none, and no instruction changes a byte of its text or of the word that leads to it
pub record HasAbbreviation (story : LoadedStory) (number : ℕ) : Type 0 where
  pub plain : IsPlainAbbreviation story.memory number
  pub unchanging : (p : ℕ) (inside : IsAbbreviation story p) → inside.number ≡ number → IsChanging story p → ⊥

-- the globals, and the object table with its entries, share no byte
abbrev pub AreApart : LoadedStory → Type 0
AreApart story = (p : ℕ) → IsWithin (globals story) 480 p → IsWithin (object_table story) (62 + 9 * story.objects) p → ⊥

-- it lies in dynamic memory behind the header, and no instruction changes it
pub record IsFrozenApart (story : LoadedStory) (range : Range) : Type 0 where
  pub above : 64 ≤ range.first
  pub below : range.last < static_base story
  pub unchanging : IsUnchanging story range.first (range.last + 1 - range.first)
