-- The bytes of a save: a form of the kind `IFZS` (Q 2, 8).
use Rattle.std.specs.Prelude.{◌≡◌, ◌⊎◌, ℕ, ◌+◌, ◌-◌, ◌%◌, ◌<◌, ◌^◌, Bool, ◌==◌, ◌||◌, List, [], ◌∷◌, ◌++◌, length, filter, replicate}
use Rattle.std.specs.List.{flat_map, AllByRecursion}
use Rattle.byteorder.specs.Endian.{big_bytes}
use Rattle.zstory.specs.LoadedStory.{LoadedStory, checksum}
use Rattle.zquetzal.specs.declared.origin.Origin.{Origin}
use Rattle.zquetzal.specs.declared.limits.TheConstants.{FORM, IFZS, IFHD, UMEM, CMEM, STKS, HEADER_LENGTH}
use Rattle.zquetzal.specs.Saved.{Frame, Saved, IsSaved, origin_of}

-- ---- chunks

-- a chunk: the number of its four letters, and its data (Q 8)
pub record Chunk : Type 0 where
  pub id : ℕ
  pub contents : List ℕ

-- its letters, the count of its data in four bytes, the data, and a zero byte behind odd data (Q 8)
abbrev pub chunk_bytes : Chunk → List ℕ
chunk_bytes c = big_bytes 4 c.id ++ big_bytes 4 (length c.contents) ++ c.contents ++ replicate (length c.contents % 2) 0

-- each number has room, and `IFhd` has 13 bytes (Q 5, 8)
pub record IsChunk (c : Chunk) : Type 0 where
  pub id : c.id < 2 ^ 32
  pub size : length c.contents < 2 ^ 32
  pub header : c.id ≡ IFHD → length c.contents ≡ HEADER_LENGTH

-- `FORM`, the count of all that follows in four bytes, `IFZS`, and the chunks (Q 2, 8)
abbrev pub form_bytes : List Chunk → List ℕ
form_bytes chunks = big_bytes 4 FORM ++ big_bytes 4 (4 + length (flat_map chunk_bytes chunks)) ++ big_bytes 4 IFZS ++ flat_map chunk_bytes chunks

-- ---- what stands in them

-- the release, the serial number, the checksum, and the place in three bytes (Q 5)
abbrev pub header_bytes : Origin → ℕ → List ℕ
header_bytes o place = big_bytes 2 o.release ++ o.serial ++ big_bytes 2 o.checksum ++ big_bytes 3 place

abbrev pub words_bytes : List ℕ → List ℕ
words_bytes words = flat_map (big_bytes 2) words

-- the return place in three bytes, the count of locals, the result variable, a bit for each argument that was supplied, spare
-- ones among them (own), and the count of stack words in two bytes (Q 4)
abbrev pub frame_head : Frame → List ℕ
frame_head f = big_bytes 3 f.return_place ++ length f.locals ∷ f.result ∷ (2 ^ f.supplied - 1) ∷ [] ++ big_bytes 2 (length f.stack)

-- its head, its locals, and its stack words (Q 4)
abbrev pub frame_bytes : Frame → List ℕ
frame_bytes f = frame_head f ++ words_bytes f.locals ++ words_bytes f.stack

abbrev pub frames_bytes : List Frame → List ℕ
frames_bytes fs = flat_map frame_bytes fs

abbrev pub header_chunk : Origin → Saved → Chunk
header_chunk o s = record { id = IFHD; contents = header_bytes o s.place }

abbrev pub memory_chunk : Saved → Chunk
memory_chunk s = record { id = UMEM; contents = s.memory }

abbrev pub stacks_chunk : Saved → Chunk
stacks_chunk s = record { id = STKS; contents = frames_bytes s.frames }

-- ---- what is written

-- `IFhd`, `UMem` and `Stks`
abbrev pub save_text : Origin → Saved → List ℕ
save_text o s = form_bytes (header_chunk o s ∷ memory_chunk s ∷ stacks_chunk s ∷ [])

-- ---- what is read

-- the chunks that this profile knows, of which it refuses `CMem`; it skips all others (own)
abbrev pub is_known : ℕ → Bool
is_known id = (id == IFHD) || (id == UMEM) || (id == CMEM) || (id == STKS)

abbrev pub known : List Chunk → List Chunk
known chunks = filter (λ c. is_known c.id) chunks

-- what is said of a story has room
pub record IsOrigin (o : Origin) : Type 0 where
  pub release : o.release < 65536
  pub serial : length o.serial ≡ 6
  pub checksum : o.checksum < 65536

-- a save names the story by its release, its serial number, and the checksum of a save or of the header (own)
pub record Names (story : LoadedStory) (o : Origin) : Type 0 where
  pub release : o.release ≡ (origin_of story).release
  pub serial : o.serial ≡ (origin_of story).serial
  pub checksum : (o.checksum ≡ (origin_of story).checksum) ⊎ (o.checksum ≡ checksum story)

-- bytes are a save of a story that tells this: a form whose count and chunks have room, and of these those that are known are `IFhd` and
-- behind it `UMem` and `Stks`, in either order
pub record ReadsAs (story : LoadedStory) (bytes : List ℕ) (s : Saved) : Type 0 where
  pub chunks : List Chunk
  pub origin : Origin
  pub spelled : bytes ≡ form_bytes chunks
  pub short : length bytes < 2 ^ 32 + 8
  pub each : AllByRecursion IsChunk chunks
  pub parts : (known chunks ≡ header_chunk origin s ∷ memory_chunk s ∷ stacks_chunk s ∷ []) ⊎ (known chunks ≡ header_chunk origin s ∷ stacks_chunk s ∷ memory_chunk s ∷ [])
  pub is_origin : IsOrigin origin
  pub names : Names story origin
  pub saved : IsSaved story s
