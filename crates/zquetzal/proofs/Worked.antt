-- Values of the definitions, computed.
use Rattle.std.proofs.Common.{◌≡◌, ℕ, List, [], ◌∷◌, ◌++◌, length, replicate, take, Result, Ok, Err, refl, true, false}
use Rattle.zstory.specs.LoadedStory.{LoadedStory}
use Rattle.zquetzal.specs.declared.error.SaveError.{SaveError}
use Rattle.zquetzal.specs.declared.error.SaveError.TheVariants as errors
use Rattle.zquetzal.specs.declared.limits.TheConstants.{FORM, IFZS, IFHD, UMEM, CMEM, STKS, HEADER_LENGTH, MOST_FRAMES}
use Rattle.zquetzal.specs.Saved.{Frame, Saved, origin_of}
use Rattle.zquetzal.specs.Grammar.{Chunk, is_known, form_bytes, header_bytes, frame_bytes, save_text}
use Rattle.zquetzal.specs.Reading.{body_of, sized_chunk, chunk_at, chunks_within, chosen, supplied_by, words_of, framed, frame_at, frames_within, frames_of, reading}
use Rattle.zquetzal.specs.Refusal.{number_of}

-- `FORM`, `IFZS`, `IFhd`, `UMem`, `CMem`, `Stks`, letter by letter
letters : (FORM ≡ 0x464F524D) × (IFZS ≡ 0x49465A53) × (IFHD ≡ 0x49466864) × (UMEM ≡ 0x554D656D) × (CMEM ≡ 0x434D656D) × (STKS ≡ 0x53746B73)
letters = (refl, refl, refl, refl, refl, refl)

-- four kinds of chunks are known, and no other one: `AUTH`, say
known_kinds : (is_known IFHD ≡ true) × (is_known UMEM ≡ true) × (is_known CMEM ≡ true) × (is_known STKS ≡ true) × (is_known 0x41555448 ≡ false)
known_kinds = (refl, refl, refl, refl, refl)

limits : (HEADER_LENGTH ≡ 13) × (MOST_FRAMES ≡ 4097)
limits = (refl, refl)

numbers : (number_of errors.NotForm ≡ 1) × (number_of errors.Length ≡ 2) × (number_of errors.ChunkMissing ≡ 3) × (number_of errors.ChunkTwice ≡ 4) × (number_of errors.Compressed ≡ 5) × (number_of errors.OtherStory ≡ 6) × (number_of errors.MemoryLength ≡ 7) × (number_of errors.Frames ≡ 8) × (number_of errors.Place ≡ 9) × (number_of errors.NotDescribed ≡ 10) × (number_of errors.OutOfMemory ≡ 11)
numbers = (refl, refl, refl, refl, refl, refl, refl, refl, refl, refl, refl)

-- ---- what is written

unfoldable pub first : Frame
first = record { return_place = 0; result = 0; supplied = 0; locals = []; stack = [] }

-- a story with 606 bytes of dynamic memory is saved by the `save` at 0x324
large : List ℕ
large = save_text (record { release = 1; serial = 0x32 ∷ 0x36 ∷ 0x30 ∷ 0x31 ∷ 0x30 ∷ 0x31 ∷ []; checksum = 0x396E }) (record { memory = replicate 606 7; place = 0x325; frames = first ∷ [] })

written :
    large
    ≡ 0x46 ∷ 0x4F ∷ 0x52 ∷ 0x4D ∷ 0x00 ∷ 0x00 ∷ 0x02 ∷ 0x90 ∷ 0x49 ∷ 0x46 ∷ 0x5A ∷ 0x53
    ∷ 0x49 ∷ 0x46 ∷ 0x68 ∷ 0x64 ∷ 0x00 ∷ 0x00 ∷ 0x00 ∷ 0x0D ∷ 0x00 ∷ 0x01 ∷ 0x32 ∷ 0x36 ∷ 0x30 ∷ 0x31 ∷ 0x30 ∷ 0x31 ∷ 0x39 ∷ 0x6E ∷ 0x00 ∷ 0x03 ∷ 0x25 ∷ 0x00
    ∷ 0x55 ∷ 0x4D ∷ 0x65 ∷ 0x6D ∷ 0x00 ∷ 0x00 ∷ 0x02 ∷ 0x5E ∷ replicate 606 7
    ++ 0x53 ∷ 0x74 ∷ 0x6B ∷ 0x73 ∷ 0x00 ∷ 0x00 ∷ 0x00 ∷ 0x08 ∷ replicate 8 0
unfolding large first
written = refl

long : length large ≡ 664
unfolding large first
long = refl

-- a frame with two locals and three arguments, of which one was spare, and one word on the stack
unfoldable pub called : Frame
called = record { return_place = 0x12345; result = 16; supplied = 3; locals = 1 ∷ 0x0203 ∷ []; stack = 0xFFFF ∷ [] }

frame_written : frame_bytes called ≡ 0x01 ∷ 0x23 ∷ 0x45 ∷ 2 ∷ 16 ∷ 7 ∷ 0 ∷ 1 ∷ 0x00 ∷ 0x01 ∷ 0x02 ∷ 0x03 ∷ 0xFF ∷ 0xFF ∷ []
unfolding called
frame_written = refl

-- ---- what is read

-- release 1, dynamic memory of three bytes, no checksum in the header, and a sum of 12
unfoldable pub story : LoadedStory
story = record {
  memory = 3 ∷ 0 ∷ 0 ∷ 1 ∷ replicate 10 0 ++ 0 ∷ 3 ∷ 0 ∷ 0 ∷ 0x32 ∷ 0x36 ∷ 0x30 ∷ 0x31 ∷ 0x30 ∷ 0x31 ∷ replicate 40 0 ++ 5 ∷ 7 ∷ [];
  objects = 0;
}

saved : Saved
saved = record { memory = 9 ∷ 8 ∷ 7 ∷ []; place = 0x10203; frames = first ∷ called ∷ [] }

unfoldable pub chunk : ℕ → List ℕ → Chunk
chunk id d = record { id = id; contents = d }

unfoldable pub head_of : ℕ → ℕ → Chunk
head_of release checksum = chunk IFHD (header_bytes (record { release = release; serial = 0x32 ∷ 0x36 ∷ 0x30 ∷ 0x31 ∷ 0x30 ∷ 0x31 ∷ []; checksum = checksum }) 0x10203)

unfoldable pub memory : Chunk
memory = chunk UMEM (9 ∷ 8 ∷ 7 ∷ [])

unfoldable pub stacks : Chunk
stacks = chunk STKS (frame_bytes first ++ frame_bytes called)

-- `IntD` with one byte
other : Chunk
other = chunk 0x496E7444 (1 ∷ [])

reads : List Chunk → Result Saved SaveError
reads chunks = reading story (form_bytes chunks)

stacked : List ℕ → Result Saved SaveError
stacked bytes = reads (head_of 1 12 ∷ memory ∷ chunk STKS bytes ∷ [])

-- the header's checksum is 0, so that a save names the sum; either is taken. Other chunks are skipped, and `Stks` may come first
taken : (save_text (origin_of story) saved ≡ form_bytes (head_of 1 12 ∷ memory ∷ stacks ∷ [])) × (reads (head_of 1 12 ∷ memory ∷ stacks ∷ []) ≡ Ok saved) × (reads (head_of 1 0 ∷ memory ∷ stacks ∷ []) ≡ Ok saved) × (reads (other ∷ head_of 1 12 ∷ other ∷ stacks ∷ memory ∷ other ∷ []) ≡ Ok saved)
unfolding reads story saved first called chunk head_of memory stacks other reading body_of sized_chunk chunk_at chunks_within chosen framed frame_at frames_within frames_of
taken = (refl, refl, refl, refl)

-- Q1 and Q2, of bytes: eleven of them, other letters, a count one too high, a last byte cut, a pad byte that isn't zero
bytes : (body_of (take 11 large) ≡ Err errors.NotForm) × (body_of (0x47 ∷ replicate 20 0) ≡ Err errors.NotForm) × (body_of (take 663 large) ≡ Err errors.Length) × (sized_chunk 1 1 (5 ∷ []) ≡ Err errors.Length) × (sized_chunk 1 1 (5 ∷ 1 ∷ []) ≡ Err errors.Length) × (sized_chunk 1 1 (5 ∷ 0 ∷ 6 ∷ []) ≡ Ok (record { id = 1; contents = 5 ∷ [] }, 6 ∷ [])) × (sized_chunk 1 2 (5 ∷ 1 ∷ 6 ∷ []) ≡ Ok (record { id = 1; contents = 5 ∷ 1 ∷ [] }, 6 ∷ [])) × (sized_chunk IFHD 12 (replicate 12 0) ≡ Err errors.Length) × (chunk_at (0 ∷ 0 ∷ 0 ∷ 1 ∷ 0 ∷ 0 ∷ 0 ∷ []) ≡ Err errors.Length)
unfolding large first body_of sized_chunk chunk_at
bytes = (refl, refl, refl, refl, refl, refl, refl, refl, refl)

-- twelve bytes are a file with no chunk; both names are asked for
shortest : (body_of (0x46 ∷ 0x4F ∷ 0x52 ∷ 0x4D ∷ 0 ∷ 0 ∷ 0 ∷ 4 ∷ 0x49 ∷ 0x46 ∷ 0x5A ∷ 0x53 ∷ []) ≡ Ok []) × (body_of (0x47 ∷ 0x4F ∷ 0x52 ∷ 0x4D ∷ 0 ∷ 0 ∷ 0 ∷ 4 ∷ 0x49 ∷ 0x46 ∷ 0x5A ∷ 0x53 ∷ []) ≡ Err errors.NotForm) × (body_of (0x46 ∷ 0x4F ∷ 0x52 ∷ 0x4D ∷ 0 ∷ 0 ∷ 0 ∷ 4 ∷ 0x49 ∷ 0x46 ∷ 0x5A ∷ 0x54 ∷ []) ≡ Err errors.NotForm)
unfolding body_of
shortest = (refl, refl, refl)

-- Q3: `IFhd`, `Stks` or memory isn't there, or `IFhd` is late. It comes before Q4 and Q5
missing : (reads (memory ∷ stacks ∷ []) ≡ Err errors.ChunkMissing) × (reads (head_of 1 12 ∷ memory ∷ memory ∷ []) ≡ Err errors.ChunkMissing) × (reads (head_of 1 12 ∷ stacks ∷ []) ≡ Err errors.ChunkMissing) × (reads (memory ∷ head_of 1 12 ∷ stacks ∷ []) ≡ Err errors.ChunkMissing)
unfolding reads story first called chunk head_of memory stacks reading body_of sized_chunk chunk_at chunks_within chosen
missing = (refl, refl, refl, refl)

-- Q4: one is there twice, also where memory is compressed. Q5: it is
twice : (reads (head_of 1 12 ∷ memory ∷ memory ∷ chunk CMEM [] ∷ stacks ∷ []) ≡ Err errors.ChunkTwice) × (reads (head_of 1 12 ∷ memory ∷ head_of 1 12 ∷ stacks ∷ []) ≡ Err errors.ChunkTwice) × (reads (head_of 1 12 ∷ memory ∷ memory ∷ stacks ∷ []) ≡ Err errors.ChunkTwice) × (reads (head_of 1 12 ∷ stacks ∷ chunk CMEM [] ∷ stacks ∷ []) ≡ Err errors.ChunkTwice) × (reads (head_of 1 12 ∷ chunk CMEM [] ∷ stacks ∷ []) ≡ Err errors.Compressed) × (reads (head_of 1 12 ∷ memory ∷ chunk CMEM [] ∷ stacks ∷ []) ≡ Err errors.Compressed)
unfolding reads story first called chunk head_of memory stacks reading body_of sized_chunk chunk_at chunks_within chosen
twice = (refl, refl, refl, refl, refl, refl)

-- Q6: another release or checksum. Q7: a byte of memory less or more
others : (reads (head_of 2 12 ∷ memory ∷ stacks ∷ []) ≡ Err errors.OtherStory) × (reads (head_of 1 1 ∷ memory ∷ stacks ∷ []) ≡ Err errors.OtherStory) × (reads (head_of 1 12 ∷ chunk UMEM (9 ∷ 8 ∷ []) ∷ stacks ∷ []) ≡ Err errors.MemoryLength) × (reads (head_of 1 12 ∷ chunk UMEM (9 ∷ 8 ∷ 7 ∷ 6 ∷ []) ∷ stacks ∷ []) ≡ Err errors.MemoryLength)
unfolding reads story first called chunk head_of memory stacks reading body_of sized_chunk chunk_at chunks_within chosen
others = (refl, refl, refl, refl)

-- Q6: another serial number
unlike : reads (chunk IFHD (header_bytes (record { release = 1; serial = 0x32 ∷ 0x36 ∷ 0x30 ∷ 0x31 ∷ 0x30 ∷ 0x32 ∷ []; checksum = 12 }) 0x10203) ∷ memory ∷ stacks ∷ []) ≡ Err errors.OtherStory
unfolding reads story first called chunk memory stacks reading body_of sized_chunk chunk_at chunks_within chosen
unlike = refl

-- Q8: no frames, a first frame with a result variable, a local, an argument or a return place, bytes over or cut off, flags above 15
frames_refused : (stacked [] ≡ Err errors.Frames) × (stacked (0 ∷ 0 ∷ 0 ∷ 0 ∷ 1 ∷ 0 ∷ 0 ∷ 0 ∷ []) ≡ Err errors.Frames) × (stacked (0 ∷ 0 ∷ 0 ∷ 1 ∷ 0 ∷ 0 ∷ 0 ∷ 0 ∷ 0 ∷ 0 ∷ []) ≡ Err errors.Frames) × (stacked (0 ∷ 0 ∷ 0 ∷ 0 ∷ 0 ∷ 1 ∷ 0 ∷ 0 ∷ []) ≡ Err errors.Frames) × (stacked (0 ∷ 0 ∷ 1 ∷ 0 ∷ 0 ∷ 0 ∷ 0 ∷ 0 ∷ []) ≡ Err errors.Frames) × (stacked (replicate 9 0) ≡ Err errors.Frames) × (stacked (0 ∷ 0 ∷ 0 ∷ 0 ∷ 0 ∷ 0 ∷ 0 ∷ 1 ∷ 0 ∷ []) ≡ Err errors.Frames) × (frame_at (0 ∷ 0 ∷ 0 ∷ 16 ∷ 0 ∷ 0 ∷ 0 ∷ 0 ∷ replicate 40 0) ≡ Err errors.Frames)
unfolding stacked reads story chunk head_of memory reading body_of sized_chunk chunk_at chunks_within chosen framed frame_at frames_within frames_of
frames_refused = (refl, refl, refl, refl, refl, refl, refl, refl)

-- a frame with three locals and two words on its stack, and what is behind it
full : Frame
full = record { return_place = 0x12345; result = 16; supplied = 3; locals = 1 ∷ 0x0203 ∷ 4 ∷ []; stack = 0xFFFF ∷ 5 ∷ [] }

front_read : frame_at (frame_bytes full ++ 6 ∷ 7 ∷ 8 ∷ []) ≡ Ok (full, 6 ∷ 7 ∷ 8 ∷ [])
unfolding full framed frame_at
front_read = refl

-- a frame with as many locals as there may be, whole and cut off; and a head that is cut off
most_locals : (frame_at (0 ∷ 0 ∷ 0 ∷ 15 ∷ 0 ∷ 0 ∷ 0 ∷ 0 ∷ replicate 30 0) ≡ Ok (record { return_place = 0; result = 0; supplied = 0; locals = replicate 15 0; stack = [] }, [])) × (frame_at (0 ∷ 0 ∷ 0 ∷ 15 ∷ 0 ∷ 0 ∷ 0 ∷ 0 ∷ replicate 29 0) ≡ Err errors.Frames) × (frame_at (replicate 7 0) ≡ Err errors.Frames)
unfolding framed frame_at
most_locals = (refl, refl, refl)

-- as many frames as there may be, and one more
counted : (frames_within 2 (replicate 16 0) ≡ Ok (first ∷ first ∷ [])) × (frames_within 2 (replicate 24 0) ≡ Err errors.Frames)
unfolding first framed frame_at frames_within
counted = (refl, refl)

-- masks of 0 to 3 arguments, and others
masks : (supplied_by 0 ≡ Ok 0) × (supplied_by 1 ≡ Ok 1) × (supplied_by 3 ≡ Ok 2) × (supplied_by 7 ≡ Ok 3) × (supplied_by 2 ≡ Err errors.Frames) × (supplied_by 15 ≡ Err errors.Frames)
masks = (refl, refl, refl, refl, refl, refl)

-- the high byte first
words : words_of (1 ∷ 2 ∷ 3 ∷ 4 ∷ []) ≡ 0x0102 ∷ 0x0304 ∷ []
words = refl
