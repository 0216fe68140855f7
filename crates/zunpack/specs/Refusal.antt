-- Refusals of a save that is to be unpacked, by the numbers that are shown (own).
use Rattle.std.specs.Prelude.{ℕ}
use Rattle.zunpack.specs.declared.error.UnpackError.{UnpackError}
use Rattle.zunpack.specs.declared.error.UnpackError.TheVariants.{NotForm, Length, ChunkMissing, ChunkTwice, Plain, OtherStory, Unfinished, TooLong, Frames, OutOfMemory}

abbrev pub number_of : UnpackError → ℕ
number_of NotForm = 1
number_of Length = 2
number_of ChunkMissing = 3
number_of ChunkTwice = 4
number_of Plain = 5
number_of OtherStory = 6
number_of Unfinished = 7
number_of TooLong = 8
number_of Frames = 9
number_of OutOfMemory = 10
