-- What the bytes of a `CMem` are: the memory that was saved, as it differs from the story's (Q 3).
use Rattle.std.specs.Prelude.{◌≡◌, ℕ, zero, suc, ◌<◌, List, [], ◌∷◌, ◌++◌, length, replicate, Option, Some, None, Result, Ok, Err, nat_le, if◌then◌else◌}
use Rattle.std.specs.List.{flat_map, AllByRecursion}
use Rattle.std.specs.Int.Bits.{bit_xor}
use Rattle.zunpack.specs.declared.error.UnpackError.{UnpackError}
use Rattle.zunpack.specs.declared.error.UnpackError.TheVariants.{Unfinished, TooLong}

-- ---- the meaning

-- what stands for some bytes of memory: one that differs by so much, or one more than so many that are the story's (Q 3)
pub data Run : Type 0 where
  Changed : ℕ → Run
  Same : ℕ → Run

-- a byte each, and a difference isn't 0
abbrev pub IsRun : Run → Type 0
IsRun (Changed d) = (0 < d) × (d < 256)
IsRun (Same n) = n < 256

-- the difference itself, or a 0 and the count (Q 3)
abbrev pub run_bytes : Run → List ℕ
run_bytes (Changed d) = d ∷ []
run_bytes (Same n) = 0 ∷ n ∷ []

-- by how much each of the bytes differs
abbrev pub run_differences : Run → List ℕ
run_differences (Changed d) = d ∷ []
run_differences (Same n) = 0 ∷ replicate n 0

abbrev pub runs_differences : List Run → List ℕ
runs_differences runs = flat_map run_differences runs

-- bytes are these runs
pub record AreRuns (packed : List ℕ) (runs : List Run) : Type 0 where
  pub spelled : packed ≡ flat_map run_bytes runs
  pub each : AllByRecursion IsRun runs

-- by how much each byte of a memory differs from the one at its place in another, by exclusive-or (Q 3)
abbrev pub differences : List ℕ → List ℕ → List ℕ
differences [] bytes = []
differences (a ∷ more) [] = []
differences (a ∷ more) (b ∷ bytes) = bit_xor a b ∷ differences more bytes

-- bytes are runs that say of a memory how it differs from the story's, which is as long. What is left out at the end is the
-- story's (Q 3)
pub record Packs (dynamic packed memory : List ℕ) : Type 0 where
  pub runs : List Run
  pub are : AreRuns packed runs
  pub left_out : ℕ
  pub tell : differences dynamic memory ≡ runs_differences runs ++ replicate left_out 0
  pub long : length memory ≡ length dynamic

-- ---- reading

abbrev pub with_run : Run → Option (List Run) → Option (List Run)
with_run r None = None
with_run r (Some runs) = Some (r ∷ runs)

-- the runs that bytes are, from the front; none are bytes that end in a 0 without its count
abbrev pub runs_of : List ℕ → Option (List Run)
runs_of [] = Some []
runs_of (zero ∷ []) = None
runs_of (zero ∷ n ∷ rest) = with_run (Same n) (runs_of rest)
runs_of (suc d ∷ rest) = with_run (Changed (suc d)) (runs_of rest)

-- a memory, of which the first bytes are to differ by so much
abbrev pub changed : List ℕ → List ℕ → List ℕ
changed bytes [] = bytes
changed [] (d ∷ ds) = []
changed (b ∷ bytes) (d ∷ ds) = bit_xor b d ∷ changed bytes ds

-- runs that say more than the story has bytes are refused
abbrev pub unpacked_by : List ℕ → Option (List Run) → Result (List ℕ) UnpackError
unpacked_by dynamic None = Err Unfinished
unpacked_by dynamic (Some runs) = if nat_le (length (runs_differences runs)) (length dynamic) then Ok (changed dynamic (runs_differences runs)) else Err TooLong

-- the memory that bytes stand for, over the story's
abbrev pub unpacked : List ℕ → List ℕ → Result (List ℕ) UnpackError
unpacked dynamic packed = unpacked_by dynamic (runs_of packed)

-- ---- writing

abbrev pub run_for : ℕ → Run
run_for zero = Same 0
run_for (suc d) = Changed (suc d)

-- bytes that stand for a memory: the plainest, which has a run for each byte
abbrev pub packed : List ℕ → List ℕ → List ℕ
packed dynamic memory = flat_map (λ d. run_bytes (run_for d)) (differences dynamic memory)
