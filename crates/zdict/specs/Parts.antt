-- Tokens as parts of their line.
use Rattle.std.specs.Prelude.{◌≡◌, ◌⊎◌, ℕ, ◌+◌, ◌<◌, ◌≤◌, true, false, List, [], ◌∷◌, length, slice_range}
use Rattle.zstory.specs.Bytes.{byte_at}
use Rattle.zdict.specs.Tokens.{Span, is_letter, is_separator}

-- a span is not empty, lies in the line and has the bytes that stand there
pub record IsPart (line : List ℕ) (span : Span) : Type 0 where
  pub some : 1 ≤ length span.bytes
  pub within : span.place + length span.bytes ≤ length line
  pub same : span.bytes ≡ slice_range line span.place (span.place + length span.bytes)

-- spans are parts of the line, of which the first begins no earlier than a place, and each other no earlier than the one before it ends
abbrev pub AreParts : List ℕ → ℕ → List Span → Type 0
AreParts line from [] = Unit
AreParts line from (span ∷ rest) = (from ≤ span.place) × IsPart line span × AreParts line (span.place + length span.bytes) rest

-- a span is one separator
pub record IsSeparator (listed line : List ℕ) (span : Span) : Type 0 where
  pub one : length span.bytes ≡ 1
  pub separates : is_separator listed (byte_at line span.place) ≡ true

-- a span is a run of letters that is as long as can be: none stands before it or behind it
pub record IsRun (listed line : List ℕ) (span : Span) : Type 0 where
  pub letters : (p : ℕ) → span.place ≤ p → p < span.place + length span.bytes → is_letter listed (byte_at line p) ≡ true
  pub before : (p : ℕ) → p + 1 ≡ span.place → is_letter listed (byte_at line p) ≡ false
  pub behind : span.place + length span.bytes < length line → is_letter listed (byte_at line (span.place + length span.bytes)) ≡ false

-- what a token is, of itself
abbrev pub IsToken : List ℕ → List ℕ → Span → Type 0
IsToken listed line span = IsPart line span × (IsSeparator listed line span ⊎ IsRun listed line span)

-- a span is one of a list
abbrev pub IsIn : Span → List Span → Type 0
IsIn span [] = ⊥
IsIn span (first ∷ rest) = (span ≡ first) ⊎ IsIn span rest
