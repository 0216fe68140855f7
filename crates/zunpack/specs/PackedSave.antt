-- A save of compressed memory (Q 2 to 5, 8).
use Rattle.std.specs.Prelude.{◌≡◌, ℕ, ◌+◌, ◌^◌, ◌<◌, List, [], ◌∷◌, length, take}
use Rattle.std.specs.List.{AllByRecursion}
use Rattle.zstory.specs.LoadedStory.{LoadedStory, static_base}
use Rattle.zquetzal.specs.declared.origin.Origin.{Origin}
use Rattle.zquetzal.specs.declared.limits.TheConstants.{IFHD, UMEM, CMEM, STKS}
use Rattle.zquetzal.specs.Saved.{Saved, IsSaved}
use Rattle.zquetzal.specs.Grammar.{Chunk, IsChunk, form_bytes, header_chunk, stacks_chunk, IsOrigin, Names}
use Rattle.zquetzal.specs.Causes.{of_kind, IsLate}
use Rattle.zunpack.specs.Packing.{Packs}

-- dynamic memory as the story was loaded
abbrev pub dynamic_of : LoadedStory → List ℕ
dynamic_of story = take (static_base story) story.memory

abbrev pub packed_chunk : List ℕ → Chunk
packed_chunk packed = record { id = CMEM; contents = packed }

-- bytes are a save of a story that tells this, with its memory compressed: a form whose count and chunks have room, of which `IFhd`, `CMem`
-- and `Stks` are there once, with `IFhd` before the others, and `UMem` isn't
pub record PackedAs (story : LoadedStory) (bytes : List ℕ) (s : Saved) : Type 0 where
  pub chunks : List Chunk
  pub origin : Origin
  pub packed : List ℕ
  pub spelled : bytes ≡ form_bytes chunks
  pub short : length bytes < 2 ^ 32 + 8
  pub each : AllByRecursion IsChunk chunks
  pub early : ¬ IsLate chunks
  pub header : of_kind IFHD chunks ≡ header_chunk origin s ∷ []
  pub compressed : of_kind CMEM chunks ≡ packed_chunk packed ∷ []
  pub plain : of_kind UMEM chunks ≡ []
  pub stacks : of_kind STKS chunks ≡ stacks_chunk s ∷ []
  pub packs : Packs (dynamic_of story) packed s.memory
  pub is_origin : IsOrigin origin
  pub names : Names story origin
  pub saved : IsSaved story s
