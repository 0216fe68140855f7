-- What the code's values say.
use Rattle.std.specs.Prelude.{◌≡◌, ℕ, zero, suc, ◌<◌, ◌≤◌, ◌++◌, Bool, true, false, ⊤, List, [], ◌∷◌, length, drop, Option, Some, None, Result, Ok, Err}
use Rattle.std.specs.List.{flat_map, AllByRecursion}
use Rattle.byteorder.specs.Endian.{big_number}
use Rattle.zstory.specs.Bytes.{AreBytes}
use Rattle.zstory.specs.LoadedStory.{LoadedStory, IsSound, static_base}
use Rattle.zquetzal.specs.declared.error.SaveError.{SaveError}
use Rattle.zquetzal.specs.declared.error.SaveError.TheVariants as saves
use Rattle.zquetzal.specs.declared.limits.TheConstants.{IFHD, UMEM, CMEM, STKS}
use Rattle.zquetzal.specs.Saved.{Saved, origin_of}
use Rattle.zquetzal.specs.Grammar.{Chunk, IsChunk, chunk_bytes, form_bytes, header_bytes}
use Rattle.zquetzal.specs.Causes.{IsNoForm, HasWrongLength, AreChunksOf, of_kind, IsMissing, LacksChunk, RepeatsChunk, IsCause as IsSaveCause, HasNone as HasNoneOfSave}
use Rattle.zquetzal.specs.Reading.{Found, Absent, Once, Often, is_of, reading}
use Rattle.zunpack.specs.declared.chunk.Chunk as code_chunk
use Rattle.zunpack.specs.declared.chunk.Found as code_found
use Rattle.zunpack.specs.declared.chunk.Found.TheVariants as code
use Rattle.zunpack.specs.declared.run.Run as code_run
use Rattle.zunpack.specs.declared.run.Run.TheVariants as code_runs
use Rattle.zunpack.specs.declared.parts.Parts as code_parts
use Rattle.zunpack.specs.declared.error.UnpackError.{UnpackError}
use Rattle.zunpack.specs.declared.error.UnpackError.TheVariants.{NotForm, Length, ChunkMissing, ChunkTwice, Plain, Unfinished, TooLong, OtherStory, Frames, OutOfMemory}
use Rattle.zunpack.specs.Packing.{Run, Changed, Same, run_differences, runs_of, changed, unpacked}
use Rattle.zunpack.specs.PackedSave.{dynamic_of}

-- a value that may be there, seen by view, is what it has to be
abbrev pub GivesSome : {X Y : Type 0} → (X → Y) → Option X → Option Y → Type 0
GivesSome view None due = due ≡ None
GivesSome view (Some x) due = due ≡ Some (view x)

-- what a refusal as a save says of a file that is to be unpacked
abbrev pub refusal_of : SaveError → Option UnpackError
refusal_of saves.NotForm = Some NotForm
refusal_of saves.Length = Some Length
refusal_of saves.ChunkMissing = Some ChunkMissing
refusal_of saves.ChunkTwice = Some ChunkTwice
refusal_of saves.Compressed = None
refusal_of error = Some Plain

-- ---- chunks

abbrev pub seen_chunk : code_chunk.Chunk → Chunk
seen_chunk c = record { id = c.id; contents = c.contents.now }

abbrev pub seen_found : code_found.Found → Found
seen_found code.Absent = Absent
seen_found (code.Once d) = Once d.now
seen_found code.Often = Often

-- bytes are these chunks
pub record IsCut (bytes : List ℕ) (chunks : List Chunk) : Type 0 where
  pub spelled : bytes ≡ flat_map chunk_bytes chunks
  pub each : AllByRecursion IsChunk chunks

-- bytes begin with this chunk, and the others follow
pub record BeginsWith (bytes : List ℕ) (c : Chunk) (rest : List ℕ) : Type 0 where
  pub spelled : bytes ≡ chunk_bytes c ++ rest
  pub is : IsChunk c

abbrev pub HasChunk : List ℕ → Type 0
HasChunk bytes = (c : Chunk) × (rest : List ℕ) × BeginsWith bytes c rest

abbrev pub HasChunks : List ℕ → Type 0
HasChunks bytes = (chunks : List Chunk) × IsCut bytes chunks

-- the data of a chunk that is there once
abbrev pub the_only : List Chunk → Option (List ℕ)
the_only (c ∷ []) = Some c.contents
the_only [] = None
the_only (c ∷ d ∷ cs) = None

-- ---- runs

abbrev pub seen_run : code_run.Run → Run
seen_run (code_runs.Changed d) = Changed d
seen_run (code_runs.Same n) = Same n

-- the run at the front, and what follows it
abbrev pub run_at : List ℕ → Option (Run × List ℕ)
run_at [] = None
run_at (zero ∷ []) = None
run_at (zero ∷ n ∷ rest) = Some (Same n, rest)
run_at (suc d ∷ rest) = Some (Changed (suc d), rest)

-- what the runs at the front tell, up to a 0 without its count
abbrev pub told : List ℕ → List ℕ
told [] = []
told (zero ∷ []) = []
told (zero ∷ n ∷ rest) = run_differences (Same n) ++ told rest
told (suc d ∷ rest) = suc d ∷ told rest

-- how many bytes runs stand for, or that they are none
abbrev pub Measures : Result ℕ UnpackError → List ℕ → Type 0
Measures (Ok n) packed = (n ≡ length (told packed)) × ((runs : List Run) × (runs_of packed ≡ Some runs))
Measures (Err e) packed = (e ≡ Unfinished) × (runs_of packed ≡ None)

-- ---- the three chunks that are read

pub record Parts : Type 0 where
  pub header : List ℕ
  pub packed : List ℕ
  pub stacks : List ℕ

abbrev pub seen_parts : code_parts.Parts → Parts
seen_parts p = record { header = p.header.now; packed = p.packed.now; stacks = p.stacks.now }

-- of chunks of which nothing is missing, and no plain part is there twice, the memory is compressed
pub record IsJudged (body : List ℕ) : Type 0 where
  pub chunks : List Chunk
  pub cut : IsCut body chunks
  pub whole : ¬ LacksChunk chunks
  pub single : ¬ RepeatsChunk chunks
  pub packed : ¬ IsMissing CMEM chunks

-- each is there once, and no plain memory is
pub record ArePartsOf (chunks : List Chunk) (p : Parts) : Type 0 where
  pub header : of_kind IFHD chunks ≡ record { id = IFHD; contents = p.header } ∷ []
  pub compressed : of_kind CMEM chunks ≡ record { id = CMEM; contents = p.packed } ∷ []
  pub plain : of_kind UMEM chunks ≡ []
  pub stacks : of_kind STKS chunks ≡ record { id = STKS; contents = p.stacks } ∷ []

-- a file is a form of these chunks, as far as it is known before its parts are looked at
pub record IsForm (bytes : List ℕ) (chunks : List Chunk) : Type 0 where
  pub are : AreChunksOf bytes chunks
  pub form : ¬ IsNoForm bytes
  pub count : ¬ HasWrongLength bytes
  pub whole : ¬ LacksChunk chunks
  pub single : ¬ RepeatsChunk chunks
  pub packed : ¬ IsMissing CMEM chunks

-- a file is a form that has these parts
pub record HasParts (bytes : List ℕ) (p : Parts) : Type 0 where
  pub chunks : List Chunk
  pub form : IsForm bytes chunks
  pub parts : ArePartsOf chunks p
  pub fits : AreBytes bytes

-- the plain save that is made of them
abbrev pub plain_header : LoadedStory → Parts → Chunk
plain_header story p = record { id = IFHD; contents = header_bytes (origin_of story) (big_number 3 (drop 10 p.header)) }

abbrev pub plain_memory : LoadedStory → Parts → Chunk
plain_memory story p = record { id = UMEM; contents = changed (dynamic_of story) (told p.packed) }

abbrev pub plain_stacks : Parts → Chunk
plain_stacks p = record { id = STKS; contents = p.stacks }

abbrev pub plain_chunks : LoadedStory → Parts → List Chunk
plain_chunks story p = plain_header story p ∷ plain_memory story p ∷ plain_stacks p ∷ []

abbrev pub plain_bytes : LoadedStory → Parts → List ℕ
plain_bytes story p = form_bytes (plain_chunks story p)

-- what is known of parts that are taken, before their frames are read
pub record AreTaken (story : LoadedStory) (p : Parts) : Type 0 where
  pub named : is_of story p.header ≡ true
  pub unpacks : unpacked (dynamic_of story) p.packed ≡ Ok (changed (dynamic_of story) (told p.packed))
  pub fits : length (told p.packed) ≤ static_base story
  pub sound : IsSound story.memory
  pub short : length p.stacks ≤ 537149476

-- what stands against them
abbrev pub ArgueAgainst : LoadedStory → Parts → UnpackError → Type 0
ArgueAgainst story p OtherStory = is_of story p.header ≡ false
ArgueAgainst story p Unfinished = (is_of story p.header ≡ true) × (unpacked (dynamic_of story) p.packed ≡ Err Unfinished)
ArgueAgainst story p TooLong = (is_of story p.header ≡ true) × (unpacked (dynamic_of story) p.packed ≡ Err TooLong)
ArgueAgainst story p Frames = (is_of story p.header ≡ true) × ((unpacked (dynamic_of story) p.packed ≡ Ok (changed (dynamic_of story) (told p.packed))) × (537149476 < length p.stacks))
ArgueAgainst story p _ = ⊥

-- ---- what is made of them

-- whether a text is read as a save, against which nothing speaks then
abbrev pub ReadsBack : LoadedStory → List ℕ → Bool → Type 0
ReadsBack story text true = ((s : Saved) × (reading story text ≡ Ok s)) × HasNoneOfSave (IsSaveCause story text)
ReadsBack story text false = (e : SaveError) × (reading story text ≡ Err e)

-- why a text isn't answered: it is read as no save, for its frames, or memory was refused
abbrev pub FailsFor : LoadedStory → List ℕ → UnpackError → Type 0
FailsFor story text Frames = ReadsBack story text false
FailsFor story text OutOfMemory = ⊤
FailsFor story text _ = ⊥
