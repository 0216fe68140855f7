-- Values of the definitions, computed.
use Rattle.std.proofs.Common.{◌≡◌, [], ◌∷◌, length, Some, None, Ok, Err, refl}
use Rattle.zunpack.specs.declared.error.UnpackError.TheVariants.{NotForm, Length, ChunkMissing, ChunkTwice, Plain, OtherStory, Unfinished, TooLong, Frames, OutOfMemory}
use Rattle.zunpack.specs.Packing.{Changed, Same, run_bytes, run_differences, runs_of, differences, changed, unpacked, packed}
use Rattle.zunpack.specs.Refusal.{number_of}

-- a 0 and 2 are three bytes that are the story's
three_same : (run_differences (Same 2) ≡ 0 ∷ 0 ∷ 0 ∷ []) × (run_bytes (Same 2) ≡ 0 ∷ 2 ∷ []) × (run_differences (Changed 9) ≡ 9 ∷ [])
three_same = (refl, refl, refl)

cut : (runs_of (5 ∷ 0 ∷ 2 ∷ 7 ∷ []) ≡ Some (Changed 5 ∷ Same 2 ∷ Changed 7 ∷ [])) × (runs_of (0 ∷ 0 ∷ 0 ∷ 3 ∷ []) ≡ Some (Same 0 ∷ Same 3 ∷ [])) × (runs_of [] ≡ Some [])
cut = (refl, refl, refl)

-- a 0 at the end has no count; one that is a count is none
unfinished : (runs_of (0 ∷ []) ≡ None) × (runs_of (5 ∷ 0 ∷ 2 ∷ 0 ∷ []) ≡ None) × (runs_of (5 ∷ 0 ∷ 0 ∷ []) ≡ Some (Changed 5 ∷ Same 0 ∷ []))
unfinished = (refl, refl, refl)

-- 10 and 5 are 15, 50 and 7 are 53, by exclusive-or; what is behind stays
over_seven : unpacked (10 ∷ 20 ∷ 30 ∷ 40 ∷ 50 ∷ 60 ∷ 70 ∷ []) (5 ∷ 0 ∷ 2 ∷ 7 ∷ []) ≡ Ok (15 ∷ 20 ∷ 30 ∷ 40 ∷ 53 ∷ 60 ∷ 70 ∷ [])
over_seven = refl

nothing_changed : (unpacked (1 ∷ 2 ∷ 3 ∷ []) [] ≡ Ok (1 ∷ 2 ∷ 3 ∷ [])) × (unpacked [] [] ≡ Ok [])
nothing_changed = (refl, refl)

-- as long as the story's memory, and one byte longer
at_the_end : (unpacked (1 ∷ 2 ∷ 3 ∷ 4 ∷ []) (0 ∷ 3 ∷ []) ≡ Ok (1 ∷ 2 ∷ 3 ∷ 4 ∷ [])) × (unpacked (1 ∷ 2 ∷ 3 ∷ 4 ∷ []) (0 ∷ 4 ∷ []) ≡ Err TooLong) × (unpacked (1 ∷ 2 ∷ 3 ∷ 4 ∷ []) (0 ∷ 2 ∷ 9 ∷ []) ≡ Ok (1 ∷ 2 ∷ 3 ∷ 13 ∷ [])) × (unpacked (1 ∷ 2 ∷ 3 ∷ 4 ∷ []) (0 ∷ 3 ∷ 9 ∷ []) ≡ Err TooLong)
at_the_end = (refl, refl, refl, refl)

-- what is both too long and cut off is cut off
both_wrong : unpacked (1 ∷ 2 ∷ []) (0 ∷ 7 ∷ 0 ∷ []) ≡ Err Unfinished
both_wrong = refl

differing : (differences (10 ∷ 20 ∷ 30 ∷ []) (15 ∷ 20 ∷ 31 ∷ []) ≡ 5 ∷ 0 ∷ 1 ∷ []) × (changed (10 ∷ 20 ∷ 30 ∷ []) (5 ∷ []) ≡ 15 ∷ 20 ∷ 30 ∷ [])
differing = (refl, refl)

plainest : packed (10 ∷ 20 ∷ 30 ∷ []) (15 ∷ 20 ∷ 31 ∷ []) ≡ 5 ∷ 0 ∷ 0 ∷ 1 ∷ []
plainest = refl

-- the longest run
longest : length (run_differences (Same 255)) ≡ 256
longest = refl

numbers : (number_of NotForm ≡ 1) × (number_of Length ≡ 2) × (number_of ChunkMissing ≡ 3) × (number_of ChunkTwice ≡ 4) × (number_of Plain ≡ 5) × (number_of OtherStory ≡ 6) × (number_of Unfinished ≡ 7) × (number_of TooLong ≡ 8) × (number_of Frames ≡ 9) × (number_of OutOfMemory ≡ 10)
numbers = (refl, refl, refl, refl, refl, refl, refl, refl, refl, refl)
