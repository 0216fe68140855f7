-- Lines of the player (own).
use Rattle.std.specs.Prelude.{◌≡◌, ◌≢◌, ◌⊎◌, ◌<◌, ◌+◌, ◌-◌, ◌^◌, ◌==◌, ℕ, Bool, true, List, [], ◌∷◌, ◌++◌, length, take, slice_index, Option, Some, None, ⊤, if◌then◌else◌}
use Rattle.std.specs.List.{All}
use Rattle.std.specs.Io.KnownBytes.{Consumes, IsAtEnd, prepend_known}
use Rattle.zfault.specs.declared.line.TheConstants.{LINE_LIMIT}
use Rattle.zplayer.specs.declared.lines.LineEnd.{LineEnd}
use Rattle.zplayer.specs.declared.lines.LineEnd.TheVariants.{Newline, Input}
use Rattle.zplayer.specs.Outside.{Blames}

-- no byte of a text ends a line
abbrev pub IsUnbroken : List ℕ → Type 0
IsUnbroken text = All (λ byte. byte ≢ 10) text

-- a text without the return that may stand at its end
abbrev pub without_return : List ℕ → List ℕ
without_return text = if slice_index text (length text - 1) == 13 then take (length text - 1) text else text

-- the bytes begin with a line that a byte 10 ends; a return just before it is no part of the line
pub record IsEnded (bytes line rest : List ℕ) : Type 0 where
  pub text : List ℕ
  pub whole : bytes ≡ text ++ 10 ∷ rest
  pub unbroken : IsUnbroken text
  pub line_is : line ≡ take LINE_LIMIT (without_return text)

-- the bytes are a last line, which nothing ends
pub record IsLast (bytes line rest : List ℕ) : Type 0 where
  pub some : bytes ≢ []
  pub unbroken : IsUnbroken bytes
  pub line_is : line ≡ take LINE_LIMIT bytes
  pub rest_is : rest ≡ []

-- The next line is taken from known bytes, of which there are fewer than a u64 counts. Of a longer line the front is kept.
abbrev pub ReadsLine : Option (List ℕ) → List ℕ → Option (List ℕ) → Type 0
ReadsLine None line new = ⊤
ReadsLine (Some bytes) line None = ⊥
ReadsLine (Some bytes) line (Some rest) = length bytes < 2 ^ 64 - 1 → IsEnded bytes line rest ⊎ IsLast bytes line rest

-- a line is taken, or there is none
abbrev pub Hears : Option (List ℕ) → Option (List ℕ) → Option (List ℕ) → Type 0
Hears old None new = IsAtEnd old
Hears old (Some line) new = ReadsLine old line new

-- ---- bytes that are read ahead

-- what a contract sees of them: the bytes that are kept, and whether the reader gave its last
pub record Ahead : Type 0 where
  pub held : List ℕ
  pub ended : Bool

-- what is still to be used: the bytes that are kept, and those that the reader has left
abbrev pub unused : Ahead → Option (List ℕ) → Option (List ℕ)
unused ahead remaining = prepend_known ahead.held remaining

-- a reader that gave its last has no byte left
abbrev pub KnowsEnd : Ahead → Option (List ℕ) → Type 0
KnowsEnd ahead remaining = ahead.ended ≡ true → IsAtEnd remaining

-- what a call that reads ahead says of its reader: it is blamed just where it fails, and is at its end where that was found
pub record BlamesReader {R : Type 0} (remaining : R → Option (List ℕ)) (failures : R → ℕ) (old new : R) (ahead : Ahead) (fails : Type 0) : Type 0 where
  pub blamed : Blames fails (failures old) (failures new)
  pub ended : KnowsEnd ahead (remaining new)

-- a byte of a line was taken, or its end was found; of the line so much is kept that its front can be told
abbrev pub Takes : Option (List ℕ) → Option (List ℕ) → List ℕ → List ℕ → Option LineEnd → Type 0
Takes old new kept now None = (byte : ℕ) × Consumes old new (byte ∷ []) × (byte ≢ 10) × (now ≡ take (LINE_LIMIT + 1) (kept ++ byte ∷ []))
Takes old new kept now (Some Newline) = Consumes old new (10 ∷ []) × (now ≡ kept)
Takes old new kept now (Some Input) = Consumes old new [] × IsAtEnd new × (now ≡ kept)

-- the line of which so much is kept, if it is one
abbrev pub line_of : List ℕ → LineEnd → Option (List ℕ)
line_of kept Newline = Some (take LINE_LIMIT (without_return kept))
line_of [] Input = None
line_of (byte ∷ kept) Input = Some (take LINE_LIMIT (byte ∷ kept))
