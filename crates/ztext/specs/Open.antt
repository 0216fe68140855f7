-- What a text has begun, as far as it matters for whether an abbreviation is used.
use Rattle.std.specs.Prelude.{◌≡◌, ℕ, ◌/◌, ◌%◌, List, [], ◌∷◌, ◌++◌, Option, Some, None, nat_lt, ◌==◌, if◌then◌else◌}
use Rattle.std.specs.Option.{option_and_then}
use Rattle.ztext.specs.declared.plain.Open.{Open}
use Rattle.ztext.specs.declared.plain.Open.TheVariants.{Letter, Mark, Bank, Escape, EscapeHigh}
use Rattle.ztext.specs.Codes.{abbreviations_used}

-- Z-characters that have begun it: of every bank, and of every high half, one
abbrev pub characters_open : Open → List ℕ
characters_open Letter = []
characters_open Mark = 5 ∷ []
characters_open Bank = 1 ∷ []
characters_open Escape = 5 ∷ 6 ∷ []
characters_open EscapeHigh = 5 ∷ 6 ∷ 0 ∷ []

-- what a Z-character that stands for itself begins
abbrev pub opened : ℕ → Open
opened z = if nat_lt z 4 then (if z == 0 then Letter else Bank) else (if z == 5 then Mark else Letter)

-- what is open after one more, or nothing where it completes an abbreviation
abbrev pub open_after : Open → ℕ → Option Open
open_after Letter z = Some (opened z)
open_after Mark z = if z == 6 then Some Escape else Some (opened z)
open_after Bank z = None
open_after Escape z = Some EscapeHigh
open_after EscapeHigh z = Some Letter

-- and after the three of a word
abbrev pub open_after_word : Open → ℕ → Option Open
open_after_word begun word =
    option_and_then (λ second. open_after second (word % 32)) (option_and_then (λ first. open_after first (word / 32 % 32)) (open_after begun (word / 1024 % 32)))

-- no abbreviation is used from there on
abbrev pub IsPlainFrom : Open → List ℕ → Type 0
IsPlainFrom begun zs = abbreviations_used (characters_open begun ++ zs) ≡ []

abbrev pub IsPlainAfter : Option Open → List ℕ → Type 0
IsPlainAfter None zs = ⊥
IsPlainAfter (Some begun) zs = IsPlainFrom begun zs
