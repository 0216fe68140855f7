-- The buffers that sread stores a line in (Z 15 sread). What may be asked of them is (own).
use Rattle.std.specs.Prelude.{ℕ, ◌+◌, ◌*◌, ◌≤◌, Bool, MatchOption}
use Rattle.zstory.specs.Bytes.{byte_at}
use Rattle.zstory.specs.LoadedStory.{LoadedStory}
use Rattle.zdomain.specs.Domain.{SetOperations}
use Rattle.zplace.specs.Bytes.{IsWithin, IsFixed, IsOpen}

-- a buffer begins with a byte that says what it takes: no play changes that, it is at least so much, and so many bytes behind it are open
pub record IsBuffer (story : LoadedStory) (is_frozen : ℕ → Bool) (at least size : ℕ) : Type 0 where
  pub fixed : IsFixed story is_frozen at
  pub large : least ≤ byte_at story.memory at
  pub free : (p : ℕ) → IsWithin (at + 1) size p → IsOpen story is_frozen p

-- a text buffer takes so many bytes: room for a letter, and for the zero behind it
abbrev pub IsTextBuffer : LoadedStory → (ℕ → Bool) → ℕ → Type 0
IsTextBuffer story is_frozen at = IsBuffer story is_frozen at 2 (byte_at story.memory at)

-- a parse buffer takes the count of words, and four bytes for each of so many: room for one
abbrev pub IsParseBuffer : LoadedStory → (ℕ → Bool) → ℕ → Type 0
IsParseBuffer story is_frozen at = IsBuffer story is_frozen at 1 (1 + 4 * byte_at story.memory at)

-- each of two sets has but one word, and there such buffers begin
abbrev pub AreBuffers : {V : Type 0} → SetOperations V → LoadedStory → (ℕ → Bool) → V → V → Type 0
AreBuffers o story is_frozen texts parses = MatchOption (o.known texts) ⊥ (IsTextBuffer story is_frozen) × MatchOption (o.known parses) ⊥ (IsParseBuffer story is_frozen)
