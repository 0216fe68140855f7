-- Saves with two mistakes each: the lower number is answered, though the higher cause holds too. Each two of Q1 to Q8 can hold of one save.
use Rattle.std.proofs.Common.{◌≡◌, inl, inr, ℕ, ◌+◌, List, [], ◌∷◌, ◌++◌, length, Err, refl, arith}
use Rattle.std.specs.List.{flat_map, AllByRecursion}
use Rattle.byteorder.specs.Endian.{big_bytes}
use Rattle.zquetzal.specs.declared.error.SaveError.{SaveError}
use Rattle.zquetzal.specs.declared.error.SaveError.TheVariants as errors
use Rattle.zquetzal.specs.declared.limits.TheConstants.{FORM, IFZS, UMEM, CMEM, STKS}
use Rattle.zquetzal.specs.Grammar.{Chunk, IsChunk, chunk_bytes}
use Rattle.zquetzal.specs.Reading.{body_of, sized_chunk, chunk_at, chunks_within, chosen, frames_within, frames_of, reading}
use Rattle.zquetzal.specs.Causes.{NamesStory, TellsFrames, IsFlaw, HasFlaw, IsCause}
use Rattle.zquetzal.proofs.Lowest.{names_other, no_frames}
use Rattle.zquetzal.proofs.Worked.{first, called, story, chunk, head_of, memory, stacks}

-- ---- the pieces: `IFhd` of the story and of another release, memory that is whole and short, and no frames

right : Chunk
right = head_of 1 12

wrong : Chunk
wrong = head_of 2 12

short : Chunk
short = chunk UMEM (9 ∷ 8 ∷ [])

packed : Chunk
packed = chunk CMEM []

bare : Chunk
bare = chunk STKS []

is_right : IsChunk right
unfolding right head_of chunk
is_right = record { id = omega arith; size = omega arith; header = λ e. refl }

is_wrong : IsChunk wrong
unfolding wrong head_of chunk
is_wrong = record { id = omega arith; size = omega arith; header = λ e. refl }

is_memory : IsChunk memory
unfolding memory chunk
is_memory = record { id = omega arith; size = omega arith; header = λ e. absurd (omega (arith, e)) }

is_short : IsChunk short
unfolding short chunk
is_short = record { id = omega arith; size = omega arith; header = λ e. absurd (omega (arith, e)) }

is_packed : IsChunk packed
unfolding packed chunk
is_packed = record { id = omega arith; size = omega arith; header = λ e. absurd (omega (arith, e)) }

is_stacks : IsChunk stacks
unfolding stacks chunk first called
is_stacks = record { id = omega arith; size = omega arith; header = λ e. absurd (omega (arith, e)) }

is_bare : IsChunk bare
unfolding bare chunk
is_bare = record { id = omega arith; size = omega arith; header = λ e. absurd (omega (arith, e)) }

-- behind any letters and any count
file : ℕ → ℕ → List Chunk → List ℕ
file letters count chunks = big_bytes 4 letters ++ big_bytes 4 count ++ big_bytes 4 IFZS ++ flat_map chunk_bytes chunks

flawed : (letters count : ℕ) (chunks : List Chunk) (e : SaveError) → AllByRecursion IsChunk chunks → IsFlaw story chunks e → HasFlaw story (file letters count chunks) e
unfolding file
flawed letters count chunks e each flaw = record { chunks = chunks; are = record { spelled = refl; each = each }; flaw = flaw }

-- ---- why the pieces are wrong

of_another : ¬ NamesStory story wrong.contents
unfolding wrong head_of chunk story
of_another = names_other story wrong.contents refl

without_frames : ¬ TellsFrames bare.contents
unfolding bare chunk frames_of frames_within
without_frames = no_frames bare.contents errors.Frames refl

-- what is answered, and a higher cause that holds
abbrev Decides : List ℕ → SaveError → SaveError → Type 0
Decides bytes lower higher = (reading story bytes ≡ Err lower) × IsCause story bytes higher

-- ---- the form's letters are wrong, and one thing more

other_letters_2 : Decides (file 0x464F524E 5 []) errors.NotForm errors.Length
unfolding file story reading body_of
other_letters_2 = (refl, inl (λ e. cc))

other_letters_3 : Decides (file 0x464F524E 0 (right ∷ memory ∷ [])) errors.NotForm errors.ChunkMissing
unfolding file right wrong short packed bare story first called chunk head_of memory stacks reading body_of
other_letters_3 = (refl, flawed 0x464F524E 0 (right ∷ memory ∷ []) errors.ChunkMissing (is_right, (is_memory, tt)) (inr (inl refl)))

other_letters_4 : Decides (file 0x464F524E 0 (right ∷ memory ∷ memory ∷ stacks ∷ [])) errors.NotForm errors.ChunkTwice
unfolding file right wrong short packed bare story first called chunk head_of memory stacks reading body_of
other_letters_4 = (refl, flawed 0x464F524E 0 (right ∷ memory ∷ memory ∷ stacks ∷ []) errors.ChunkTwice (is_right, (is_memory, (is_memory, (is_stacks, tt)))) (inr (inr (omega arith))))

other_letters_5 : Decides (file 0x464F524E 0 (right ∷ packed ∷ stacks ∷ [])) errors.NotForm errors.Compressed
unfolding file right wrong short packed bare story first called chunk head_of memory stacks reading body_of
other_letters_5 = (refl, flawed 0x464F524E 0 (right ∷ packed ∷ stacks ∷ []) errors.Compressed (is_right, (is_packed, (is_stacks, tt))) (λ e. cc))

other_letters_6 : Decides (file 0x464F524E 0 (wrong ∷ memory ∷ stacks ∷ [])) errors.NotForm errors.OtherStory
unfolding file right wrong short packed bare story first called chunk head_of memory stacks reading body_of
other_letters_6 = (refl, flawed 0x464F524E 0 (wrong ∷ memory ∷ stacks ∷ []) errors.OtherStory (is_wrong, (is_memory, (is_stacks, tt))) (λ all. of_another all.0))

other_letters_7 : Decides (file 0x464F524E 0 (right ∷ short ∷ stacks ∷ [])) errors.NotForm errors.MemoryLength
unfolding file right wrong short packed bare story first called chunk head_of memory stacks reading body_of
other_letters_7 = (refl, flawed 0x464F524E 0 (right ∷ short ∷ stacks ∷ []) errors.MemoryLength (is_right, (is_short, (is_stacks, tt))) (λ all. omega (arith, all.0)))

other_letters_8 : Decides (file 0x464F524E 0 (right ∷ memory ∷ bare ∷ [])) errors.NotForm errors.Frames
unfolding file right wrong short packed bare story first called chunk head_of memory stacks reading body_of
other_letters_8 = (refl, flawed 0x464F524E 0 (right ∷ memory ∷ bare ∷ []) errors.Frames (is_right, (is_memory, (is_bare, tt))) (λ all. without_frames all.0))

-- ---- the form's count is wrong, and one thing more

other_count_3 : Decides (file FORM 0 (right ∷ memory ∷ [])) errors.Length errors.ChunkMissing
unfolding file right wrong short packed bare story first called chunk head_of memory stacks reading body_of
other_count_3 = (refl, flawed FORM 0 (right ∷ memory ∷ []) errors.ChunkMissing (is_right, (is_memory, tt)) (inr (inl refl)))

other_count_4 : Decides (file FORM 0 (right ∷ memory ∷ memory ∷ stacks ∷ [])) errors.Length errors.ChunkTwice
unfolding file right wrong short packed bare story first called chunk head_of memory stacks reading body_of
other_count_4 = (refl, flawed FORM 0 (right ∷ memory ∷ memory ∷ stacks ∷ []) errors.ChunkTwice (is_right, (is_memory, (is_memory, (is_stacks, tt)))) (inr (inr (omega arith))))

other_count_5 : Decides (file FORM 0 (right ∷ packed ∷ stacks ∷ [])) errors.Length errors.Compressed
unfolding file right wrong short packed bare story first called chunk head_of memory stacks reading body_of
other_count_5 = (refl, flawed FORM 0 (right ∷ packed ∷ stacks ∷ []) errors.Compressed (is_right, (is_packed, (is_stacks, tt))) (λ e. cc))

other_count_6 : Decides (file FORM 0 (wrong ∷ memory ∷ stacks ∷ [])) errors.Length errors.OtherStory
unfolding file right wrong short packed bare story first called chunk head_of memory stacks reading body_of
other_count_6 = (refl, flawed FORM 0 (wrong ∷ memory ∷ stacks ∷ []) errors.OtherStory (is_wrong, (is_memory, (is_stacks, tt))) (λ all. of_another all.0))

other_count_7 : Decides (file FORM 0 (right ∷ short ∷ stacks ∷ [])) errors.Length errors.MemoryLength
unfolding file right wrong short packed bare story first called chunk head_of memory stacks reading body_of
other_count_7 = (refl, flawed FORM 0 (right ∷ short ∷ stacks ∷ []) errors.MemoryLength (is_right, (is_short, (is_stacks, tt))) (λ all. omega (arith, all.0)))

other_count_8 : Decides (file FORM 0 (right ∷ memory ∷ bare ∷ [])) errors.Length errors.Frames
unfolding file right wrong short packed bare story first called chunk head_of memory stacks reading body_of
other_count_8 = (refl, flawed FORM 0 (right ∷ memory ∷ bare ∷ []) errors.Frames (is_right, (is_memory, (is_bare, tt))) (λ all. without_frames all.0))

-- ---- two flaws of chunks

whole : List Chunk → List ℕ
whole chunks = file FORM (4 + length (flat_map chunk_bytes chunks)) chunks

both_flawed : (chunks : List Chunk) (e : SaveError) → AllByRecursion IsChunk chunks → IsFlaw story chunks e → HasFlaw story (whole chunks) e
unfolding whole
both_flawed chunks e each flaw = flawed FORM (4 + length (flat_map chunk_bytes chunks)) chunks e each flaw

flaws_3_4 : Decides (whole (right ∷ right ∷ memory ∷ [])) errors.ChunkMissing errors.ChunkTwice
unfolding whole file right wrong short packed bare story first called chunk head_of memory stacks reading body_of sized_chunk chunk_at chunks_within chosen frames_of frames_within
flaws_3_4 = (refl, both_flawed (right ∷ right ∷ memory ∷ []) errors.ChunkTwice (is_right, (is_right, (is_memory, tt))) (inl (omega arith)))

flaws_3_5 : Decides (whole (right ∷ packed ∷ [])) errors.ChunkMissing errors.Compressed
unfolding whole file right wrong short packed bare story first called chunk head_of memory stacks reading body_of sized_chunk chunk_at chunks_within chosen frames_of frames_within
flaws_3_5 = (refl, both_flawed (right ∷ packed ∷ []) errors.Compressed (is_right, (is_packed, tt)) (λ e. cc))

flaws_3_6 : Decides (whole (wrong ∷ memory ∷ [])) errors.ChunkMissing errors.OtherStory
unfolding whole file right wrong short packed bare story first called chunk head_of memory stacks reading body_of sized_chunk chunk_at chunks_within chosen frames_of frames_within
flaws_3_6 = (refl, both_flawed (wrong ∷ memory ∷ []) errors.OtherStory (is_wrong, (is_memory, tt)) (λ all. of_another all.0))

flaws_3_7 : Decides (whole (right ∷ short ∷ [])) errors.ChunkMissing errors.MemoryLength
unfolding whole file right wrong short packed bare story first called chunk head_of memory stacks reading body_of sized_chunk chunk_at chunks_within chosen frames_of frames_within
flaws_3_7 = (refl, both_flawed (right ∷ short ∷ []) errors.MemoryLength (is_right, (is_short, tt)) (λ all. omega (arith, all.0)))

flaws_3_8 : Decides (whole (right ∷ bare ∷ [])) errors.ChunkMissing errors.Frames
unfolding whole file right wrong short packed bare story first called chunk head_of memory stacks reading body_of sized_chunk chunk_at chunks_within chosen frames_of frames_within
flaws_3_8 = (refl, both_flawed (right ∷ bare ∷ []) errors.Frames (is_right, (is_bare, tt)) (λ all. without_frames all.0))

flaws_4_5 : Decides (whole (right ∷ memory ∷ packed ∷ stacks ∷ stacks ∷ [])) errors.ChunkTwice errors.Compressed
unfolding whole file right wrong short packed bare story first called chunk head_of memory stacks reading body_of sized_chunk chunk_at chunks_within chosen frames_of frames_within
flaws_4_5 = (refl, both_flawed (right ∷ memory ∷ packed ∷ stacks ∷ stacks ∷ []) errors.Compressed (is_right, (is_memory, (is_packed, (is_stacks, (is_stacks, tt))))) (λ e. cc))

flaws_4_6 : Decides (whole (wrong ∷ memory ∷ memory ∷ stacks ∷ [])) errors.ChunkTwice errors.OtherStory
unfolding whole file right wrong short packed bare story first called chunk head_of memory stacks reading body_of sized_chunk chunk_at chunks_within chosen frames_of frames_within
flaws_4_6 = (refl, both_flawed (wrong ∷ memory ∷ memory ∷ stacks ∷ []) errors.OtherStory (is_wrong, (is_memory, (is_memory, (is_stacks, tt)))) (λ all. of_another all.0))

flaws_4_7 : Decides (whole (right ∷ short ∷ short ∷ stacks ∷ [])) errors.ChunkTwice errors.MemoryLength
unfolding whole file right wrong short packed bare story first called chunk head_of memory stacks reading body_of sized_chunk chunk_at chunks_within chosen frames_of frames_within
flaws_4_7 = (refl, both_flawed (right ∷ short ∷ short ∷ stacks ∷ []) errors.MemoryLength (is_right, (is_short, (is_short, (is_stacks, tt)))) (λ all. omega (arith, all.0)))

flaws_4_8 : Decides (whole (right ∷ memory ∷ bare ∷ bare ∷ [])) errors.ChunkTwice errors.Frames
unfolding whole file right wrong short packed bare story first called chunk head_of memory stacks reading body_of sized_chunk chunk_at chunks_within chosen frames_of frames_within
flaws_4_8 = (refl, both_flawed (right ∷ memory ∷ bare ∷ bare ∷ []) errors.Frames (is_right, (is_memory, (is_bare, (is_bare, tt)))) (λ all. without_frames all.0))

flaws_5_6 : Decides (whole (wrong ∷ packed ∷ stacks ∷ [])) errors.Compressed errors.OtherStory
unfolding whole file right wrong short packed bare story first called chunk head_of memory stacks reading body_of sized_chunk chunk_at chunks_within chosen frames_of frames_within
flaws_5_6 = (refl, both_flawed (wrong ∷ packed ∷ stacks ∷ []) errors.OtherStory (is_wrong, (is_packed, (is_stacks, tt))) (λ all. of_another all.0))

flaws_5_7 : Decides (whole (right ∷ short ∷ packed ∷ stacks ∷ [])) errors.Compressed errors.MemoryLength
unfolding whole file right wrong short packed bare story first called chunk head_of memory stacks reading body_of sized_chunk chunk_at chunks_within chosen frames_of frames_within
flaws_5_7 = (refl, both_flawed (right ∷ short ∷ packed ∷ stacks ∷ []) errors.MemoryLength (is_right, (is_short, (is_packed, (is_stacks, tt)))) (λ all. omega (arith, all.0)))

flaws_5_8 : Decides (whole (right ∷ packed ∷ bare ∷ [])) errors.Compressed errors.Frames
unfolding whole file right wrong short packed bare story first called chunk head_of memory stacks reading body_of sized_chunk chunk_at chunks_within chosen frames_of frames_within
flaws_5_8 = (refl, both_flawed (right ∷ packed ∷ bare ∷ []) errors.Frames (is_right, (is_packed, (is_bare, tt))) (λ all. without_frames all.0))

flaws_6_7 : Decides (whole (wrong ∷ short ∷ stacks ∷ [])) errors.OtherStory errors.MemoryLength
unfolding whole file right wrong short packed bare story first called chunk head_of memory stacks reading body_of sized_chunk chunk_at chunks_within chosen frames_of frames_within
flaws_6_7 = (refl, both_flawed (wrong ∷ short ∷ stacks ∷ []) errors.MemoryLength (is_wrong, (is_short, (is_stacks, tt))) (λ all. omega (arith, all.0)))

flaws_6_8 : Decides (whole (wrong ∷ memory ∷ bare ∷ [])) errors.OtherStory errors.Frames
unfolding whole file right wrong short packed bare story first called chunk head_of memory stacks reading body_of sized_chunk chunk_at chunks_within chosen frames_of frames_within
flaws_6_8 = (refl, both_flawed (wrong ∷ memory ∷ bare ∷ []) errors.Frames (is_wrong, (is_memory, (is_bare, tt))) (λ all. without_frames all.0))

flaws_7_8 : Decides (whole (right ∷ short ∷ bare ∷ [])) errors.MemoryLength errors.Frames
unfolding whole file right wrong short packed bare story first called chunk head_of memory stacks reading body_of sized_chunk chunk_at chunks_within chosen frames_of frames_within
flaws_7_8 = (refl, both_flawed (right ∷ short ∷ bare ∷ []) errors.Frames (is_right, (is_short, (is_bare, tt))) (λ all. without_frames all.0))
