-- What is closed, part by part (own).
use Rattle.std.specs.Prelude.{◌≡◌, ◌⊎◌, ℕ, ◌*◌, List, Option, Some, None, true}
use Rattle.zstory.specs.LoadedStory.{LoadedStory}
use Rattle.ztext.specs.Abbreviations.{readable_word}
use Rattle.ztext.specs.Local.{read_length}
use Rattle.zcert.specs.declared.parts.Range.{Range}
use Rattle.zpairs.specs.Frozen.{is_inside}
use Rattle.zplace.specs.Bytes.{IsWithin}
use Rattle.zjudge.specs.Memory.{AreKept}

-- what a reading goes over of the text that a word leads to
abbrev pub IsInText : List ℕ → Option ℕ → ℕ → Type 0
IsInText memory None p = ⊥
IsInText memory (Some word) p = IsWithin (2 * word) (read_length memory (2 * word)) p

-- a byte of the word at a place, or of the text that it leads to
abbrev pub IsLedTo : List ℕ → ℕ → ℕ → Type 0
IsLedTo memory entry p = IsWithin entry 2 p ⊎ IsInText memory (readable_word memory entry) p

-- what a range has is as loaded
pub record IsRangeKept (story : LoadedStory) (saved : List ℕ) (range : Range) : Type 0 where
  pub kept : AreKept story saved (λ p. is_inside p range ≡ true)
