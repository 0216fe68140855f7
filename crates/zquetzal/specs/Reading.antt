-- Reading a save, with the first refusal in the order of their numbers: each looks at the whole file.
use Rattle.std.specs.Prelude.{ℕ, zero, suc, ◌+◌, ◌*◌, ◌%◌, Bool, true, false, not, ◌&&◌, ◌||◌, ◌==◌, nat_le, if◌then◌else◌, List, [], ◌∷◌, length, take, drop, slice_index, slice_range, Option, Some, None, Result, Ok, Err}
use Rattle.std.specs.Str.{bytes_eq}
use Rattle.byteorder.specs.Endian.{big_number}
use Rattle.zstory.specs.LoadedStory.{LoadedStory, release, serial, checksum, save_checksum, static_base}
use Rattle.zquetzal.specs.declared.error.SaveError.{SaveError}
use Rattle.zquetzal.specs.declared.error.SaveError.TheVariants as errors
use Rattle.zquetzal.specs.declared.limits.TheConstants.{FORM, IFZS, IFHD, UMEM, CMEM, STKS, HEADER_LENGTH, MOST_FRAMES}
use Rattle.zquetzal.specs.Saved.{Frame, Saved}
use Rattle.zquetzal.specs.Grammar.{Chunk, is_known}
use Rattle.zquetzal.specs.Steps.{◌>>=◌, need}

-- ---- chunks

-- what follows `IFZS`
unfoldable pub body_of : List ℕ → Result (List ℕ) SaveError
body_of bytes = do
  _ ← need (nat_le 12 (length bytes) && (big_number 4 bytes == FORM) && (big_number 4 (drop 8 bytes) == IFZS)) errors.NotForm
  _ ← need (big_number 4 (drop 4 bytes) + 8 == length bytes) errors.Length
  Ok (drop 12 bytes)

-- the chunk at the front, whose data are so many, and what follows its pad byte
unfoldable pub sized_chunk : ℕ → ℕ → List ℕ → Result (Chunk × List ℕ) SaveError
sized_chunk id size body = do
  _ ← need (nat_le (size + size % 2) (length body)) errors.Length
  _ ← need ((size % 2 == 0) || (slice_index body size == 0)) errors.Length
  _ ← need (not (id == IFHD) || (size == HEADER_LENGTH)) errors.Length
  Ok (record { id = id; contents = take size body }, drop (size + size % 2) body)

-- the chunk at the front
unfoldable pub chunk_at : List ℕ → Result (Chunk × List ℕ) SaveError
chunk_at bytes = do
  _ ← need (nat_le 8 (length bytes)) errors.Length
  sized_chunk (big_number 4 bytes) (big_number 4 (drop 4 bytes)) (drop 8 bytes)

-- the chunks that the bytes are, of which there are at most so many
unfoldable pub chunks_within : ℕ → List ℕ → Result (List Chunk) SaveError
chunks_within n [] = Ok []
chunks_within zero (b ∷ bytes) = Err errors.Length
chunks_within (suc n) (b ∷ bytes) = do
  c ← chunk_at (b ∷ bytes)
  cs ← chunks_within n c.1
  Ok (c.0 ∷ cs)

-- there are no more chunks than bytes
abbrev pub chunks_of : List ℕ → Result (List Chunk) SaveError
chunks_of bytes = chunks_within (length bytes) bytes

-- ---- what stands in them

-- how often a chunk occurs: not at all, once with these data, or more often
pub data Found : Type 0 where
  Absent : Found
  Once : List ℕ → Found
  Often : Found

-- what was found before, and then what was found behind it
abbrev pub found_then : Found → Found → Found
found_then Absent later = later
found_then (Once d) Absent = Once d
found_then (Once d) (Once e) = Often
found_then (Once d) Often = Often
found_then Often later = Often

abbrev pub found_in : ℕ → Chunk → Found
found_in id c = if c.id == id then Once c.contents else Absent

abbrev pub found : ℕ → List Chunk → Found
found id [] = Absent
found id (c ∷ cs) = found_then (found_in id c) (found id cs)

abbrev pub is_absent : Found → Bool
is_absent Absent = true
is_absent (Once d) = false
is_absent Often = false

abbrev pub is_often : Found → Bool
is_often Absent = false
is_often (Once d) = false
is_often Often = true

-- the data of a chunk that has to be there once
abbrev pub once : Found → Result (List ℕ) SaveError
once Absent = Err errors.ChunkMissing
once (Once d) = Ok d
once Often = Err errors.ChunkTwice

-- the first chunk of those that are known
abbrev pub first_known : List Chunk → Option ℕ
first_known [] = None
first_known (c ∷ cs) = if is_known c.id then Some c.id else first_known cs

abbrev pub is_header : Option ℕ → Bool
is_header None = false
is_header (Some id) = id == IFHD

-- the data of the three chunks that are read
pub record Parts : Type 0 where
  pub header : List ℕ
  pub memory : List ℕ
  pub stacks : List ℕ

-- chunks that are missing or late come first, then those that are there twice, then `CMem`
unfoldable pub chosen : Option ℕ → Found → Found → Found → Found → Result Parts SaveError
chosen first header memory compressed stacks = do
  _ ← need (is_header first && not (is_absent stacks) && not (is_absent memory && is_absent compressed)) errors.ChunkMissing
  h ← once header
  s ← once stacks
  _ ← need (not (is_often memory)) errors.ChunkTwice
  _ ← need (is_absent compressed) errors.Compressed
  m ← once memory
  Ok (record { header = h; memory = m; stacks = s })

abbrev pub parts_of : List Chunk → Result Parts SaveError
parts_of cs = chosen (first_known cs) (found IFHD cs) (found UMEM cs) (found CMEM cs) (found STKS cs)

-- whether `IFhd` is of the story (Q 5): either checksum is taken (own)
abbrev pub is_of : LoadedStory → List ℕ → Bool
is_of story header =
    (big_number 2 header == release story) && bytes_eq (slice_range header 2 8) (serial story)
    && ((big_number 2 (drop 8 header) == save_checksum story) || (big_number 2 (drop 8 header) == checksum story))

-- ---- frames

-- how many arguments a mask tells: one bit for each, from bit 0 up
abbrev pub supplied_by : ℕ → Result ℕ SaveError
supplied_by mask =
    if mask == 0 then Ok 0 else (if mask == 1 then Ok 1 else (if mask == 3 then Ok 2 else (if mask == 7 then Ok 3 else Err errors.Frames)))

-- words, each of which is two bytes
abbrev pub words_of : List ℕ → List ℕ
words_of [] = []
words_of (high ∷ []) = []
words_of (high ∷ low ∷ rest) = (256 * high + low) ∷ words_of rest

-- a frame with so many locals and stack words, its head before its words
unfoldable pub framed : List ℕ → ℕ → ℕ → ℕ → List ℕ → Result (Frame × List ℕ) SaveError
framed head supplied locals stack body = do
  _ ← need (nat_le (2 * locals + 2 * stack) (length body)) errors.Frames
  Ok (
    record {
      return_place = big_number 3 head;
      result = slice_index head 4;
      supplied = supplied;
      locals = words_of (take (2 * locals) body);
      stack = words_of (take (2 * stack) (drop (2 * locals) body));
    },
    drop (2 * stack) (drop (2 * locals) body),
  )

-- the frame at the front. Its flags are the count of its locals, and no more (own)
unfoldable pub frame_at : List ℕ → Result (Frame × List ℕ) SaveError
frame_at bytes = do
  _ ← need (nat_le 8 (length bytes)) errors.Frames
  _ ← need (nat_le (slice_index bytes 3) 15) errors.Frames
  supplied ← supplied_by (slice_index bytes 5)
  framed bytes supplied (slice_index bytes 3) (big_number 2 (drop 6 bytes)) (drop 8 bytes)

-- the frames that the bytes are, of which there may be at most so many
unfoldable pub frames_within : ℕ → List ℕ → Result (List Frame) SaveError
frames_within n [] = Ok []
frames_within zero (b ∷ bytes) = Err errors.Frames
frames_within (suc n) (b ∷ bytes) = do
  f ← frame_at (b ∷ bytes)
  fs ← frames_within n f.1
  Ok (f.0 ∷ fs)

abbrev pub is_first : Frame → Bool
is_first f = (f.return_place == 0) && (f.result == 0) && (f.supplied == 0) && (length f.locals == 0)

-- the first frame, and behind it the others
abbrev pub are_frames : List Frame → Bool
are_frames [] = false
are_frames (f ∷ fs) = is_first f

unfoldable pub frames_of : List ℕ → Result (List Frame) SaveError
frames_of stacks = do
  fs ← frames_within MOST_FRAMES stacks
  _ ← need (are_frames fs) errors.Frames
  Ok fs

-- ---- a save

-- the three chunks that are read
abbrev pub parts_at : List ℕ → Result Parts SaveError
parts_at body = chunks_of body >>= parts_of

unfoldable pub reading : LoadedStory → List ℕ → Result Saved SaveError
reading story bytes = do
  body ← body_of bytes
  parts ← parts_at body
  _ ← need (is_of story parts.header) errors.OtherStory
  _ ← need (length parts.memory == static_base story) errors.MemoryLength
  frames ← frames_of parts.stacks
  Ok (record { memory = parts.memory; place = big_number 3 (drop 10 parts.header); frames = frames })
