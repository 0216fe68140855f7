-- What a sink of turns has taken and hasn't given out, and what the end of a turn does to it (own).
use Rattle.std.specs.Prelude.{◌≡◌, ℕ, List, [], Option, Result, MatchResult}
use Rattle.std.specs.Io.KnownBytes.{Appends}
use Rattle.zfront.specs.Wrapping.{settled}
use Rattle.zfront.specs.Owed.{Owed, Finishes, bytes_owed}
use Rattle.zfront.specs.WrappedSinks.{below_of as below_wrapped, owed_of as owed_wrapped}
use Rattle.zfront.specs.declared.turns.Turns.{Turns}

-- the sink below
abbrev pub below_of : {W : Type 0} → Turns W → W
below_of turns = below_wrapped turns.text

-- what was taken and isn't given out
abbrev pub owed_of : {W : Type 0} → Turns W → Owed
owed_of turns = owed_wrapped turns.text

-- All that was owed is given out, and what comes is at the beginning of a line.
pub record EndsTurn (old new : Option (List ℕ)) (before after : Owed) : Type 0 where
  pub grown : Appends old new (bytes_owed before)
  pub none : after.decided ≡ []
  pub wrapping : after.wrapping ≡ record (settled before.wrapping) { column = 0 }

-- a turn ends, or a beginning of what was owed is given out, of which all is decided
abbrev pub Ends : {E : Type 0} → Option (List ℕ) → Option (List ℕ) → Owed → Owed → Result Unit E → Type 0
Ends old new before after outcome = MatchResult outcome (λ _. EndsTurn old new before after) (λ _. Finishes old new before after)
