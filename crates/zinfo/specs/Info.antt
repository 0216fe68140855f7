-- What is told of a story (own).
use Rattle.std.specs.Prelude.{◌≡◌, ℕ, ◌==◌, if◌then◌else◌, length}
use Rattle.zstory.specs.Dictionary.{entry_count}
use Rattle.zstory.specs.LoadedStory.{LoadedStory, checksum, file_sum, release, serial}
use Rattle.zlist.specs.Listed.{IsLowestFault, Lists}
use Rattle.zlist.specs.Listing.{IsInOrder, ListedCode}
use Rattle.zinfo.specs.Unplayed.{AreCountsOf}
use Rattle.zinfo.specs.declared.facts.Checksum.{Checksum}
use Rattle.zinfo.specs.declared.facts.Checksum.TheVariants.{Right, Unstated, Wrong}
use Rattle.zinfo.specs.declared.facts.Code.{Code}
use Rattle.zinfo.specs.declared.facts.Code.TheVariants.{Listed, Unlisted}
use Rattle.zinfo.specs.declared.facts.Heading.{Heading}
use Rattle.zinfo.specs.declared.facts.Info.{Info}

-- what names a story: its release, its serial number and the checksum that it states (Z 11.1)
abbrev pub heading_of : LoadedStory → Heading
heading_of story = record { release = release story; serial = serial story; checksum = checksum story }

-- The checksum is right where it is the sum that `verify` forms. Where it is another and 0, none is stated (Z 11.1, 15).
abbrev pub checksum_by : ℕ → ℕ → Checksum
checksum_by stated sum = if stated == sum then Right stated else if stated == 0 then Unstated sum else Wrong stated sum

-- how many routines and instructions the listing has of all that the story lists, or of what is at fault with it the lowest
abbrev pub IsCodeOf : LoadedStory → Code → Type 0
IsCodeOf story (Listed routines instructions) = (listing : ListedCode) × Lists story listing × IsInOrder listing × (routines ≡ length listing.routines) × (instructions ≡ length listing.records)
IsCodeOf story (Unlisted error) = IsLowestFault story error

pub record IsInfoOf (story : LoadedStory) (info : Info) : Type 0 where
  pub release : info.release ≡ release story
  pub serial : info.serial ≡ serial story
  pub length : info.length ≡ length story.memory
  pub checksum : info.checksum ≡ checksum_by (checksum story) (file_sum story)
  pub objects : info.objects ≡ story.objects
  pub words : info.words ≡ entry_count story.memory
  pub code : IsCodeOf story info.code
  pub unplayed : AreCountsOf story info.unplayed
