-- What unpacking a save of a story's file comes to (own).
use Rattle.std.specs.Prelude.{◌≡◌, ◌≢◌, ◌⊎◌, ⊤, ℕ, true, List, Option, IfSome, take}
use Rattle.zstory.specs.LoadedStory.{LoadedStory}
use Rattle.zquetzal.specs.Saved.{Saved, origin_of}
use Rattle.zquetzal.specs.Grammar.{save_text}
use Rattle.zunpack.specs.Causes.{IsCause, IsLowest}
use Rattle.zunpack.specs.PackedSave.{PackedAs}
use Rattle.zunpack.specs.declared.error.UnpackError.TheVariants.{OutOfMemory as NoMemoryToUnpack}
use Rattle.zperform.specs.Blaming.{IsOf}
use Rattle.zperform.specs.Contents.{HasBytes, SparesOthers}
use Rattle.zperform.specs.Devices.{Held}
use Rattle.zperform.specs.Accepting.{HoldsSuch, IsWhyNone}
use Rattle.zperform.specs.Finding.{HasAlone}
use Rattle.zperform.specs.declared.blame.Action.TheVariants.{Read, Write}
use Rattle.zperform.specs.declared.blame.Blame.{Blame}
use Rattle.zperform.specs.declared.outcome.Failure.TheVariants.{File, Memory}
use Rattle.zperform.specs.declared.outcome.Problem.{Problem}
use Rattle.zperform.specs.declared.outcome.Problem.TheVariants.{Packed, Failed}
use Rattle.zperform.specs.declared.outcome.Outcome.{Outcome}
use Rattle.zperform.specs.declared.outcome.Outcome.TheVariants.{Unpacked, Stopped}

-- bytes with this property were read of a save's file: all of them, or the first 2^30
abbrev pub ReadsSave : Option (List ℕ) → (List ℕ → Type 0) → Type 0
ReadsSave known property = (bytes : List ℕ) × IfSome known (λ file. bytes ≡ take 1073741824 file) × property bytes

-- bytes are a save of a story whose memory is compressed, and others the plain one that tells the same
abbrev pub IsUnpacked : LoadedStory → List ℕ → List ℕ → Type 0
IsUnpacked story packed plain = (s : Saved) × PackedAs story packed s × (plain ≡ save_text (origin_of story) s)

-- a file has a save that is unpacked to these bytes, of the story that another holds
abbrev pub IsUnpackedOf : Option (List ℕ) → Option (List ℕ) → List ℕ → Type 0
IsUnpackedOf story_known save_known plain = HoldsSuch story_known (λ story. ReadsSave save_known (λ packed. IsUnpacked story packed plain))

-- why a file's bytes aren't unpacked for a story: for their cause with the lowest number, or since they can't be read, or for want of memory, of a file
-- that has a byte
abbrev pub IsPacked : Option (List ℕ) → LoadedStory → Problem → Type 0
IsPacked known story (Packed error) = ReadsSave known (λ packed. IsLowest (IsCause story packed) error) × (error ≢ NoMemoryToUnpack)
IsPacked known story (Failed File) = ⊤
IsPacked known story (Failed Memory) = HasBytes known
IsPacked known story problem = ⊥

-- the story's file is looked at first
abbrev pub IsNotUnpacked : Option (List ℕ) → Option (List ℕ) → Problem → Type 0
IsNotUnpacked story_known save_known problem = IsWhyNone (IsPacked save_known) story_known problem

-- What unpacking comes to, with the bytes of files before and now. No file has other bytes where it isn't done, but where writing one failed.
abbrev pub UnpackEnds : List ℕ → List ℕ → List ℕ → (List ℕ → Option (List ℕ)) → (List ℕ → Option (List ℕ)) → Outcome → Type 0
UnpackEnds story save out held holds Unpacked = (plain : List ℕ) × IsUnpackedOf (held story) (held save) plain × HasAlone plain (holds out)
UnpackEnds story save out held holds (Stopped problem) = IsNotUnpacked (held story) (held save) problem × (problem ≢ Failed File → holds ≡ held)
UnpackEnds story save out held holds outcome = ⊥

-- Nothing is written but the file, and no other file changes.
pub record UnpackComesTo (story save out : List ℕ) (held holds : List ℕ → Option (List ℕ)) (before now : Option (List ℕ)) (outcome : Outcome) : Type 0 where
  pub ends : UnpackEnds story save out held holds outcome
  pub spared : SparesOthers out held holds
  pub silent : now ≡ before

-- which file a failure is of: the story's, the save's, or the one that the plain save was to be written to
abbrev pub IsOfThree : Held → List ℕ → List ℕ → List ℕ → Type 0
IsOfThree files story save out = (files.can_fail story ≡ true) ⊎ ((files.can_fail save ≡ true) ⊎ (files.can_fail out ≡ true))

-- and which is told of
abbrev pub IsUnreadOfThree : List ℕ → List ℕ → List ℕ → Option Blame → Type 0
IsUnreadOfThree story save out blamed = IsOf story Read blamed ⊎ (IsOf save Read blamed ⊎ IsOf out Write blamed)
