-- Lines of bytes that were read ahead (own).
use Rattle.std.specs.Prelude.{◌≡◌, ℕ, ◌≤◌, List, [], ◌∷◌, ◌++◌, take, Option, Result, MatchResult}
use Rattle.std.specs.Io.BufRead.{take_through}
use Rattle.std.specs.Io.KnownBytes.{Consumes, IsAtEnd, Keeps}

-- the line at the front with its end (10), or all where no line ends; of that as much as goes into so much room
abbrev pub line_within : ℕ → List ℕ → List ℕ
line_within room bytes = take_through 10 (take room bytes)

-- an end of line is only the last of these bytes
abbrev pub IsOneLine : List ℕ → Type 0
IsOneLine bytes = (before behind : List ℕ) → bytes ≡ before ++ 10 ∷ behind → behind ≡ []

-- the first byte that isn't given yet, and the place behind the last one
abbrev pub IsAhead : ℕ → ℕ → Type 0
IsAhead start end = (start ≤ end) × (end ≤ 256)

-- where nothing was held, so much was read of a source as is held now, nothing only at its end; and at an error nothing was read and is held
abbrev pub ReadsAhead : {E : Type 0} → Option (List ℕ) → Option (List ℕ) → Result Unit E → List ℕ → Type 0
ReadsAhead old new outcome held = MatchResult outcome (λ _. Consumes old new held × (held ≡ [] → IsAtEnd new)) (λ _. (held ≡ []) × Keeps old new)
