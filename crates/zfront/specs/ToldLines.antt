-- What a sink that tells the source's lines has taken and hasn't given out, and what calls do to it (own).
use Rattle.std.specs.Prelude.{◌≡◌, ℕ, ◌≤◌, Bool, true, false, not, List, [], ◌++◌, length, Option, Result, MatchResult, ◌⊎◌, if◌then◌else◌}
use Rattle.std.specs.List.{list_any}
use Rattle.std.specs.Io.KnownBytes.{Appends}
use Rattle.zfront.specs.ReadAhead.{IsOneLine}
use Rattle.zfront.specs.Sourced.{Known, is_end, line_told}

-- what is decided and is still to be given out, what is held of a line, and whether the rest of the line goes out as it is
pub record Untold : Type 0 where
  pub decided : List ℕ
  pub held : List ℕ
  pub passing : Bool

-- nothing, at the beginning of a line
abbrev pub nothing_untold : Untold
nothing_untold = record { decided = []; held = []; passing = false }

-- a piece of a line is held, and where the line ends with it, the line is told
abbrev pub holding : Known → List ℕ → List ℕ → Untold
holding known held piece =
    if list_any is_end piece then record { decided = line_told known (held ++ piece); held = []; passing = false } else record { decided = []; held = held ++ piece; passing = false }

-- This piece, of one line, was taken to be told; what was decided before was given out.
pub record Holds (known : Known) (old new : Option (List ℕ)) (before after : Untold) (piece : List ℕ) : Type 0 where
  pub grown : Appends old new before.decided
  pub line : IsOneLine piece
  pub whole : before.passing ≡ false
  pub state : after ≡ holding known before.held piece

-- Its line goes out as it is: what was decided, what was held and the piece were given out.
pub record LetsPass (old new : Option (List ℕ)) (before after : Untold) (piece : List ℕ) : Type 0 where
  pub grown : Appends old new (before.decided ++ before.held ++ piece)
  pub line : IsOneLine piece
  pub decided : after.decided ≡ []
  pub held : after.held ≡ []
  pub passing : after.passing ≡ not (list_any is_end piece)

-- a piece was taken
abbrev pub TakesPiece : Known → Option (List ℕ) → Option (List ℕ) → Untold → Untold → List ℕ → Type 0
TakesPiece known old new before after piece = Holds known old new before after piece ⊎ LetsPass old new before after piece

-- No piece was taken, and a beginning of what was decided was given out.
pub record GivesDecided (old new : Option (List ℕ)) (before after : Untold) : Type 0 where
  pub given : List ℕ
  pub grown : Appends old new given
  pub whole : before.decided ≡ given ++ after.decided
  pub held : after.held ≡ before.held
  pub passing : after.passing ≡ before.passing

-- No piece was taken, and the line goes out as it is; of what was decided and of what was held a beginning was given out.
pub record GivesHeld (old new : Option (List ℕ)) (before after : Untold) : Type 0 where
  pub given : List ℕ
  pub grown : Appends old new given
  pub whole : before.decided ++ before.held ≡ given ++ after.decided
  pub held : after.held ≡ []
  pub passing : after.passing ≡ true

-- no piece was taken, and nothing is lost
abbrev pub TakesNone : Option (List ℕ) → Option (List ℕ) → Untold → Untold → Type 0
TakesNone old new before after = GivesDecided old new before after ⊎ GivesHeld old new before after

-- What was held is decided, told or as it was; of what was decided and of that a beginning was given out.
pub record Settles (known : Known) (old new : Option (List ℕ)) (before after : Untold) : Type 0 where
  pub given : List ℕ
  pub rest : List ℕ
  pub told : (rest ≡ line_told known before.held) ⊎ (rest ≡ before.held)
  pub grown : Appends old new given
  pub whole : before.decided ++ rest ≡ given ++ after.decided
  pub held : after.held ≡ []
  pub passing : after.passing ≡ before.passing

-- a flush settles what was held, or it failed before that
abbrev pub SettlesOr : Known → Option (List ℕ) → Option (List ℕ) → Untold → Untold → Type 0
SettlesOr known old new before after = GivesDecided old new before after ⊎ Settles known old new before after

-- a flush gives out all that was taken, or it failed
abbrev pub Flushes : {E : Type 0} → Known → Option (List ℕ) → Option (List ℕ) → Untold → Untold → Result Unit E → Type 0
Flushes known old new before after outcome = MatchResult outcome (λ _. Settles known old new before after × (after.decided ≡ [])) (λ _. SettlesOr known old new before after)

-- what is known of it: how much of what was decided is given out
abbrev pub IsUntold : List ℕ → ℕ → Type 0
IsUntold decided given = given ≤ length decided
