-- Places that no property's data may lie at (own).
use Rattle.std.specs.Prelude.{◌≡◌, ℕ, ◌+◌, ◌*◌, List, Some}
use Rattle.zstory.specs.LoadedStory.{LoadedStory, globals, object_table, abbreviations}
use Rattle.ztext.specs.Abbreviations.{readable_word}
use Rattle.ztext.specs.Local.{read_length}
use Rattle.zplace.specs.declared.places.Places.{Places}
use Rattle.zplace.specs.declared.places.Places.TheVariants.{Run, Sizes}
use Rattle.zplace.specs.Bytes.{IsWithin, IsSizePlace, IsAbbreviation, IsPropertyFrame}
use Rattle.zplace.specs.Tables.{IsDataPlace, IsPropertyData}

abbrev pub IsAmong : List ℕ → Places → ℕ → Type 0
IsAmong memory (Run from size) p = IsWithin from size p
IsAmong memory (Sizes at) p = IsSizePlace memory p at

-- no data byte of the list from a place on is among them
abbrev pub MeetsNoData : List ℕ → Places → ℕ → Type 0
MeetsNoData memory places at = (p : ℕ) → IsAmong memory places p → IsDataPlace memory p at → ⊥

-- none of any object is
abbrev pub LeavesData : LoadedStory → Places → Type 0
LeavesData story places = (p : ℕ) → IsAmong story.memory places p → IsPropertyData story p → ⊥

-- no property's data is in what a reading goes over of the text that the word at a place leads to
abbrev pub TextLeavesData : LoadedStory → ℕ → Type 0
TextLeavesData story at = (p word : ℕ) → readable_word story.memory at ≡ Some word → IsWithin (2 * word) (read_length story.memory (2 * word)) p → IsPropertyData story p → ⊥

-- nor in that of an abbreviation, or in the word that leads to it
pub record AbbreviationLeavesData (story : LoadedStory) (number : ℕ) : Type 0 where
  pub entry : LeavesData story (Run (abbreviations story + 2 * number) 2)
  pub text : TextLeavesData story (abbreviations story + 2 * number)

-- all that a table of a story takes up, beside property data, lies apart from them
pub record AreDataApart (story : LoadedStory) : Type 0 where
  pub of_globals : LeavesData story (Run (globals story) 480)
  pub of_objects : LeavesData story (Run (object_table story) (62 + 9 * story.objects))
  pub of_abbreviations : (p : ℕ) → IsAbbreviation story p → IsPropertyData story p → ⊥
  pub of_frames : (p : ℕ) → IsPropertyFrame story p → IsPropertyData story p → ⊥
