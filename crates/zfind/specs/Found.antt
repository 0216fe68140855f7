-- A certificate that is found (own).
use Rattle.std.specs.Prelude.{◌≡◌, ℕ, List, Some}
use Rattle.zstory.specs.LoadedStory.{LoadedStory}
use Rattle.zdomain.specs.Interval.{interval_operations}
use Rattle.zdomain.specs.declared.values.Values.{Values}
use Rattle.zdomain.specs.Values.{values_operations}
use Rattle.zcert.specs.Certificate.{Certificate}
use Rattle.zcert.specs.Format.{interval_format}
use Rattle.zcert.specs.Lists.{values_format}
use Rattle.zcert.specs.Marks.{marks}
use Rattle.zcert.specs.Spelling.{spelling}
use Rattle.zcheck.specs.Passes.{Passes}
use Rattle.zfind.specs.declared.found.Found.{Found}
use Rattle.zfind.specs.declared.found.Found.TheVariants.{Intervals, Lists, Marked}
use Rattle.zfind.specs.Finding.{IsWithoutIntervals}

-- it passes, and lists are told only where none of intervals was found; none is marked
abbrev pub IsFound : LoadedStory → Found → Type 0
IsFound story (Intervals certificate) = Passes interval_operations story certificate
IsFound story (Lists certificate) = Passes values_operations story certificate × IsWithoutIntervals story
IsFound story (Marked certificate) = ⊥

-- it passes, of sets that may be lists, and lets at most so many frames stand above the first
abbrev pub IsFoundWithin : LoadedStory → ℕ → Certificate Values → Type 0
IsFoundWithin story limit certificate = Passes values_operations story certificate × (certificate.limit ≡ Some limit)

-- its bytes, by the version of the format that has its kind of sets
abbrev pub spelling_of : Found → List ℕ
spelling_of (Intervals certificate) = spelling interval_format certificate
spelling_of (Lists certificate) = spelling values_format certificate
spelling_of (Marked certificate) = spelling values_format certificate

-- how many instructions it marks
abbrev pub marks_of : Found → ℕ
marks_of (Intervals certificate) = marks certificate.instructions
marks_of (Lists certificate) = marks certificate.instructions
marks_of (Marked certificate) = marks certificate.instructions
