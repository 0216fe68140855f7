-- What a line leaves of memory.
use Rattle.std.specs.Prelude.{◌≡◌, ◌⊎◌, ℕ, ◌+◌, ◌*◌, ◌<◌, ◌≤◌, List, length}
use Rattle.zstory.specs.Bytes.{AreBytes, byte_at}
use Rattle.zstory.specs.LoadedStory.{IsSound}
use Rattle.zline.specs.Storing.{HasBuffers, with_line}

-- a place isn't one of so many from another on
abbrev pub IsBeside : ℕ → ℕ → ℕ → Type 0
IsBeside from count place = (place < from) ⊎ (from + count ≤ place)

-- the memory is as long as before, each byte is the same that is in neither buffer behind its size, and bytes stay bytes where what is
-- said of words is by a sound story's dictionary
pub record StaysInBuffers (story : List ℕ) (text parse : ℕ) (before after : List ℕ) : Type 0 where
  pub size : length after ≡ length before
  pub same : (place : ℕ) → IsBeside (text + 1) (byte_at before text) place → IsBeside (parse + 1) (1 + 4 * byte_at before parse) place → byte_at after place ≡ byte_at before place
  pub bytes : IsSound story → AreBytes before → AreBytes after

-- a line is stored in its buffers
abbrev pub LinesStay : Type 0
LinesStay = (story memory line : List ℕ) (text parse : ℕ) → HasBuffers memory text parse → StaysInBuffers story text parse memory (with_line story text parse line memory)
