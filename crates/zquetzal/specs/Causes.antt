-- Why bytes are no save of a story: each cause with its number, and which of several decides (Q 2, 4, 5, 8, own).
use Rattle.std.specs.Prelude.{◌≡◌, ◌≢◌, ◌⊎◌, ℕ, ◌+◌, ◌^◌, ◌<◌, ◌==◌, List, [], ◌∷◌, length, drop, filter}
use Rattle.std.specs.List.{flat_map, AllByRecursion}
use Rattle.byteorder.specs.Endian.{big_number}
use Rattle.zstory.specs.LoadedStory.{LoadedStory, static_base}
use Rattle.zquetzal.specs.declared.error.SaveError.{SaveError}
use Rattle.zquetzal.specs.declared.error.SaveError.TheVariants.{NotForm, Length, ChunkMissing, ChunkTwice, Compressed, OtherStory, MemoryLength, Frames}
use Rattle.zquetzal.specs.declared.limits.TheConstants.{FORM, IFZS, IFHD, UMEM, CMEM, STKS}
use Rattle.zquetzal.specs.declared.origin.Origin.{Origin}
use Rattle.zquetzal.specs.Saved.{Frame, AreFrames}
use Rattle.zquetzal.specs.Grammar.{Chunk, IsChunk, chunk_bytes, header_bytes, frames_bytes, known, IsOrigin, Names}
use Rattle.zquetzal.specs.Refusal.{number_of}

-- The causes of Q1 and Q2 are facts of the bytes.

-- Q1: the first twelve bytes aren't there, or have other letters than `FORM` and `IFZS` (Q 2)
abbrev pub IsNoForm : List ℕ → Type 0
IsNoForm bytes = (length bytes < 12) ⊎ ((big_number 4 bytes ≢ FORM) ⊎ (big_number 4 (drop 8 bytes) ≢ IFZS))

-- the chunks that stand behind the first twelve bytes: each has its length, and a zero behind odd data (Q 5, 8)
pub record AreChunksOf (bytes : List ℕ) (chunks : List Chunk) : Type 0 where
  pub spelled : drop 12 bytes ≡ flat_map chunk_bytes chunks
  pub each : AllByRecursion IsChunk chunks

-- Q2: the form's length isn't that of all that follows it, or behind the first twelve bytes something else stands than chunks
abbrev pub HasWrongLength : List ℕ → Type 0
HasWrongLength bytes = (big_number 4 (drop 4 bytes) + 8 ≢ length bytes) ⊎ ((chunks : List Chunk) → ¬ AreChunksOf bytes chunks)

-- The causes of Q3 to Q8 are facts of the chunks.

abbrev pub of_kind : ℕ → List Chunk → List Chunk
of_kind id chunks = filter (λ c. c.id == id) chunks

abbrev pub IsMissing : ℕ → List Chunk → Type 0
IsMissing id chunks = of_kind id chunks ≡ []

-- another of the four stands in front of the first `IFhd` (Q 5)
pub record IsLate (chunks : List Chunk) : Type 0 where
  pub first : Chunk
  pub others : List Chunk
  pub order : known chunks ≡ first ∷ others
  pub unlike : first.id ≢ IFHD

-- Q3: no `IFhd`, no `Stks`, no memory, or `IFhd` too late
abbrev pub LacksChunk : List Chunk → Type 0
LacksChunk chunks = IsMissing IFHD chunks ⊎ (IsMissing STKS chunks ⊎ ((IsMissing UMEM chunks × IsMissing CMEM chunks) ⊎ IsLate chunks))

abbrev pub IsRepeated : ℕ → List Chunk → Type 0
IsRepeated id chunks = 1 < length (of_kind id chunks)

-- Q4 (own)
abbrev pub RepeatsChunk : List Chunk → Type 0
RepeatsChunk chunks = IsRepeated IFHD chunks ⊎ (IsRepeated STKS chunks ⊎ IsRepeated UMEM chunks)

-- Q5 (own)
abbrev pub IsCompressed : List Chunk → Type 0
IsCompressed chunks = ¬ IsMissing CMEM chunks

-- data of an `IFhd` that names the story (Q 5)
pub record NamesStory (story : LoadedStory) (contents : List ℕ) : Type 0 where
  pub origin : Origin
  pub place : ℕ
  pub spelled : contents ≡ header_bytes origin place
  pub low : place < 2 ^ 24
  pub is_origin : IsOrigin origin
  pub names : Names story origin

-- Q6: an `IFhd` names another story
abbrev pub NamesAnother : LoadedStory → List Chunk → Type 0
NamesAnother story chunks = ¬ AllByRecursion (λ c. NamesStory story c.contents) (of_kind IFHD chunks)

-- Q7: an `UMem` isn't as long as dynamic memory
abbrev pub HasOtherMemory : LoadedStory → List Chunk → Type 0
HasOtherMemory story chunks = ¬ AllByRecursion (λ c. length c.contents ≡ static_base story) (of_kind UMEM chunks)

-- data of a `Stks` that are frames which a story can have (Q 4)
pub record TellsFrames (contents : List ℕ) : Type 0 where
  pub frames : List Frame
  pub spelled : contents ≡ frames_bytes frames
  pub are : AreFrames frames

-- Q8: a `Stks` is something else than frames
abbrev pub HasWrongFrames : List Chunk → Type 0
HasWrongFrames chunks = ¬ AllByRecursion (λ c. TellsFrames c.contents) (of_kind STKS chunks)

-- what speaks against chunks
abbrev pub IsFlaw : LoadedStory → List Chunk → SaveError → Type 0
IsFlaw story chunks ChunkMissing = LacksChunk chunks
IsFlaw story chunks ChunkTwice = RepeatsChunk chunks
IsFlaw story chunks Compressed = IsCompressed chunks
IsFlaw story chunks OtherStory = NamesAnother story chunks
IsFlaw story chunks MemoryLength = HasOtherMemory story chunks
IsFlaw story chunks Frames = HasWrongFrames chunks
IsFlaw story chunks _ = ⊥

-- the bytes have chunks that have the flaw
pub record HasFlaw (story : LoadedStory) (bytes : List ℕ) (error : SaveError) : Type 0 where
  pub chunks : List Chunk
  pub are : AreChunksOf bytes chunks
  pub flaw : IsFlaw story chunks error

-- what speaks against bytes. Nothing does behind Q8: the others are of machines
abbrev pub IsCause : LoadedStory → List ℕ → SaveError → Type 0
IsCause story bytes NotForm = IsNoForm bytes
IsCause story bytes Length = HasWrongLength bytes
IsCause story bytes error = HasFlaw story bytes error

-- the cause holds, and none with a lower number does
pub record IsLowest (causes : SaveError → Type 0) (error : SaveError) : Type 0 where
  pub holds : causes error
  pub lowest : (lower : SaveError) → number_of lower < number_of error → ¬ causes lower

-- no cause holds
abbrev pub HasNone : (SaveError → Type 0) → Type 0
HasNone causes = (error : SaveError) → ¬ causes error
