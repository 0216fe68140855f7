-- How the code goes over chunks: it keeps what it found so far, and not the chunks.
use Rattle.std.specs.Prelude.{ℕ, zero, suc, if◌then◌else◌, List, [], ◌∷◌, Option, Some, None, Result, Ok, Err}
use Rattle.zquetzal.specs.declared.error.SaveError.{SaveError}
use Rattle.zquetzal.specs.declared.error.SaveError.TheVariants as errors
use Rattle.zquetzal.specs.declared.limits.TheConstants.{IFHD, UMEM, CMEM, STKS}
use Rattle.zquetzal.specs.Grammar.{Chunk, is_known}
use Rattle.zquetzal.specs.Steps.{◌>>=◌}
use Rattle.zquetzal.specs.Reading.{Found, found, found_in, found_then, first_known, chunk_at, chunks_of, chosen, Parts}

pub record Survey : Type 0 where
  pub first : Option ℕ
  pub header : Found
  pub memory : Found
  pub compressed : Found
  pub stacks : Found

abbrev pub survey_of : List Chunk → Survey
survey_of cs = record { first = first_known cs; header = found IFHD cs; memory = found UMEM cs; compressed = found CMEM cs; stacks = found STKS cs }

abbrev pub first_then : Option ℕ → ℕ → Option ℕ
first_then (Some first) id = Some first
first_then None id = if is_known id then Some id else None

-- with one chunk more
abbrev pub noted : Survey → Chunk → Survey
noted s c = record {
  first = first_then s.first c.id;
  header = found_then s.header (found_in IFHD c);
  memory = found_then s.memory (found_in UMEM c);
  compressed = found_then s.compressed (found_in CMEM c);
  stacks = found_then s.stacks (found_in STKS c);
}

-- with all chunks that the bytes are, of which there are at most so many
unfoldable pub surveyed : ℕ → Survey → List ℕ → Result Survey SaveError
surveyed n s [] = Ok s
surveyed zero s (b ∷ bytes) = Err errors.Length
surveyed (suc n) s (b ∷ bytes) = do
  c ← chunk_at (b ∷ bytes)
  surveyed n (noted s c.0) c.1

-- what is found of the chunks that the bytes are
abbrev pub survey_at : List ℕ → Result Survey SaveError
survey_at bytes = chunks_of bytes >>= λ cs. Ok (survey_of cs)

abbrev pub chosen_in : Survey → Result Parts SaveError
chosen_in s = chosen s.first s.header s.memory s.compressed s.stacks
