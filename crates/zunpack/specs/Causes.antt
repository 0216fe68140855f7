-- Why bytes can't be unpacked: each cause with its number, and which of several decides (Q 2, 3, 4, 5, 8, own).
use Rattle.std.specs.Prelude.{◌⊎◌, ℕ, ◌<◌, ◌≤◌, List, length}
use Rattle.std.specs.List.{AllByRecursion}
use Rattle.zstory.specs.LoadedStory.{LoadedStory}
use Rattle.zquetzal.specs.declared.limits.TheConstants.{UMEM, CMEM}
use Rattle.zquetzal.specs.Grammar.{Chunk}
use Rattle.zquetzal.specs.Causes.{IsNoForm, HasWrongLength, AreChunksOf, of_kind, IsMissing, IsRepeated, LacksChunk, RepeatsChunk, NamesAnother, HasWrongFrames}
use Rattle.zunpack.specs.declared.error.UnpackError.{UnpackError}
use Rattle.zunpack.specs.declared.error.UnpackError.TheVariants.{NotForm, Length, ChunkMissing, ChunkTwice, Plain, OtherStory, Unfinished, TooLong, Frames, OutOfMemory}
use Rattle.zunpack.specs.Packing.{Run, AreRuns, runs_differences}
use Rattle.zunpack.specs.PackedSave.{dynamic_of}
use Rattle.zunpack.specs.Refusal.{number_of}

-- C4: `IFhd`, `Stks` or `UMem` is there twice, or `CMem` is, or both memories are (own)
abbrev pub RepeatsPart : List Chunk → Type 0
RepeatsPart chunks = RepeatsChunk chunks ⊎ (IsRepeated CMEM chunks ⊎ (¬ IsMissing UMEM chunks × ¬ IsMissing CMEM chunks))

-- data of a `CMem` that are runs (Q 3)
abbrev pub IsFinished : List ℕ → Type 0
IsFinished packed = (runs : List Run) × AreRuns packed runs

-- C7: a `CMem` is something else than runs
abbrev pub HasUnfinished : List Chunk → Type 0
HasUnfinished chunks = ¬ AllByRecursion (λ c. IsFinished c.contents) (of_kind CMEM chunks)

-- runs say no more than the story has bytes (Q 3)
abbrev pub FitsIn : List ℕ → List ℕ → Type 0
FitsIn dynamic packed = (runs : List Run) → AreRuns packed runs → length (runs_differences runs) ≤ length dynamic

-- C8: the runs of a `CMem` say more
abbrev pub IsTooLong : LoadedStory → List Chunk → Type 0
IsTooLong story chunks = ¬ AllByRecursion (λ c. FitsIn (dynamic_of story) c.contents) (of_kind CMEM chunks)

-- what speaks against chunks
abbrev pub IsFlaw : LoadedStory → List Chunk → UnpackError → Type 0
IsFlaw story chunks ChunkMissing = LacksChunk chunks
IsFlaw story chunks ChunkTwice = RepeatsPart chunks
IsFlaw story chunks Plain = IsMissing CMEM chunks
IsFlaw story chunks OtherStory = NamesAnother story chunks
IsFlaw story chunks Unfinished = HasUnfinished chunks
IsFlaw story chunks TooLong = IsTooLong story chunks
IsFlaw story chunks Frames = HasWrongFrames chunks
IsFlaw story chunks _ = ⊥

-- the bytes have chunks that have the flaw
pub record HasFlaw (story : LoadedStory) (bytes : List ℕ) (error : UnpackError) : Type 0 where
  pub chunks : List Chunk
  pub are : AreChunksOf bytes chunks
  pub flaw : IsFlaw story chunks error

-- what speaks against bytes. Of want of memory they say nothing
abbrev pub IsCause : LoadedStory → List ℕ → UnpackError → Type 0
IsCause story bytes NotForm = IsNoForm bytes
IsCause story bytes Length = HasWrongLength bytes
IsCause story bytes error = HasFlaw story bytes error

-- none with a lower number holds
abbrev pub NoneBelow : (UnpackError → Type 0) → ℕ → Type 0
NoneBelow causes n = (lower : UnpackError) → number_of lower < n → ¬ causes lower

-- the cause holds, and none with a lower number does
pub record IsLowest (causes : UnpackError → Type 0) (error : UnpackError) : Type 0 where
  pub holds : causes error
  pub lowest : NoneBelow causes (number_of error)

-- no cause holds
abbrev pub HasNone : (UnpackError → Type 0) → Type 0
HasNone causes = (error : UnpackError) → ¬ causes error

-- why a refusal is answered: the lowest cause holds, or memory was refused, before the frames were judged
abbrev pub IsRefused : (UnpackError → Type 0) → UnpackError → Type 0
IsRefused causes OutOfMemory = NoneBelow causes (number_of Frames)
IsRefused causes error = IsLowest causes error
