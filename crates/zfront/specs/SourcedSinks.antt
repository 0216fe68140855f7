-- What a contract sees of a `ToldLines` and of a `Sourced`.
use Rattle.std.specs.Prelude.{ℕ, Bool, List, Option, None, Some, Result}
use Rattle.std.specs.Io.KnownBytes.{Appends, Keeps}
use Rattle.std.specs.Borrow.{GName}
use Rattle.zfront.specs.declared.told_lines.ToldLines.{ToldLines}
use Rattle.zfront.specs.declared.sourced.Sourced.{Sourced}
use Rattle.zfront.specs.declared.sourced.Sourced.TheVariants.{Plain, Told}
use Rattle.zfront.specs.Sourced.{Known, known_of}
use Rattle.zfront.specs.ToldLines.{Untold, Flushes, TakesNone, TakesPiece, nothing_untold}

-- the sink below
abbrev pub lines_below : {W : Type 0} → ToldLines W → W
lines_below lines = lines.below.now

-- which reference to it that is
abbrev pub lines_name : {W : Type 0} → ToldLines W → GName
lines_name lines = lines.below.ghost_name

-- what is known of the source
abbrev pub lines_known : {W : Type 0} → ToldLines W → Known
lines_known lines = known_of lines.info.now

-- what was taken and isn't given out
abbrev pub lines_untold : {W : Type 0} → ToldLines W → Untold
lines_untold lines = lines.untold

-- whether bytes were taken that no flush has handed on
abbrev pub lines_wait : {W : Type 0} → ToldLines W → Bool
lines_wait lines = lines.waits

-- the sink below a `Sourced`
abbrev pub below_of : {W : Type 0} → Sourced W → W
below_of (Plain below) = below.now
below_of (Told lines) = lines_below lines

-- which reference to it that is
abbrev pub below_name : {W : Type 0} → Sourced W → GName
below_name (Plain below) = below.ghost_name
below_name (Told lines) = lines_name lines

-- what is known of the source, if lines are told, and what was taken then and isn't given out
abbrev pub known_to : {W : Type 0} → Sourced W → Option Known
known_to (Plain below) = None
known_to (Told lines) = Some (lines_known lines)

abbrev pub untold_of : {W : Type 0} → Sourced W → Untold
untold_of (Plain below) = nothing_untold
untold_of (Told lines) = lines_untold lines

-- the known bytes of a sink that tells nothing are those of the sink below
abbrev pub known_bytes : Option Known → Option (List ℕ) → Option (List ℕ)
known_bytes None below = below
known_bytes (Some known) below = None

-- whether bytes wait, below or here
abbrev pub waits_of : {W : Type 0} → (W → Bool) → Sourced W → Bool
waits_of waits (Plain below) = waits below.now
waits_of waits (Told lines) = lines_wait lines

-- a piece was taken, and the sink below grew by it, or by what was given out
abbrev pub PassesHere : Option Known → Option (List ℕ) → Option (List ℕ) → Untold → Untold → List ℕ → Type 0
PassesHere None old new before after piece = Appends old new piece
PassesHere (Some known) old new before after piece = TakesPiece known old new before after piece

-- no piece was taken, and the sink below stays as it was, or grew by what was given out
abbrev pub RefusesHere : Option Known → Option (List ℕ) → Option (List ℕ) → Untold → Untold → Type 0
RefusesHere None old new before after = Keeps old new
RefusesHere (Some known) old new before after = TakesNone old new before after

-- all that was taken is given out, if lines are told; or it failed
abbrev pub FlushesHere : {E : Type 0} → Option Known → Option (List ℕ) → Option (List ℕ) → Untold → Untold → Result Unit E → Type 0
FlushesHere None old new before after outcome = Keeps old new
FlushesHere (Some known) old new before after outcome = Flushes known old new before after outcome
