-- Refusals of a save, by the numbers that are shown (own).
use Rattle.std.specs.Prelude.{ℕ}
use Rattle.zquetzal.specs.declared.error.SaveError.{SaveError}
use Rattle.zquetzal.specs.declared.error.SaveError.TheVariants.{NotForm, Length, ChunkMissing, ChunkTwice, Compressed, OtherStory, MemoryLength, Frames, Place, NotDescribed, OutOfMemory}

abbrev pub number_of : SaveError → ℕ
number_of NotForm = 1
number_of Length = 2
number_of ChunkMissing = 3
number_of ChunkTwice = 4
number_of Compressed = 5
number_of OtherStory = 6
number_of MemoryLength = 7
number_of Frames = 8
number_of Place = 9
number_of NotDescribed = 10
number_of OutOfMemory = 11
