-- What a contract sees of a `Screen`.
use Rattle.std.specs.Prelude.{ℕ, Bool, ◌==◌, if◌then◌else◌, List, Option, None, Some, Result}
use Rattle.std.specs.Io.KnownBytes.{Appends, Keeps}
use Rattle.std.specs.Borrow.{GName}
use Rattle.zfault.specs.Devices.{waits_after}
use Rattle.zfront.specs.declared.screen.Screen.{Screen}
use Rattle.zfront.specs.declared.screen.Screen.TheVariants.{Plain, Wrapped}
use Rattle.zfront.specs.Owed.{Owed, Passes, GivesSome, bytes_owed, nothing_owed}
use Rattle.zfront.specs.Turns.{Ends, below_of as below_turns, owed_of as owed_turns}

-- the sink below
abbrev pub below_of : {W : Type 0} → Screen W → W
below_of (Plain below) = below.now
below_of (Wrapped turns) = below_turns turns

-- which reference to it that is
abbrev pub below_name : {W : Type 0} → Screen W → GName
below_name (Plain below) = below.ghost_name
below_name (Wrapped turns) = turns.text.below.ghost_name

-- where it wraps, what was taken and isn't given out
abbrev pub owed_of : {W : Type 0} → Screen W → Option Owed
owed_of (Plain below) = None
owed_of (Wrapped turns) = Some (owed_turns turns)

-- at a width of 1 or more nothing is owed, and else it doesn't wrap
abbrev pub begins_with : Option ℕ → Option Owed
begins_with None = None
begins_with (Some width) = if width == 0 then None else Some (nothing_owed width)

-- the known bytes of a sink that doesn't wrap are those of the sink below
abbrev pub known_bytes : Option Owed → Option (List ℕ) → Option (List ℕ)
known_bytes None below = below
known_bytes (Some owed) below = None

-- whether bytes wait, below or here
abbrev pub waits_here : Option Owed → Bool → Bool
waits_here None below = below
waits_here (Some owed) below = waits_after below (bytes_owed owed)

-- a piece was taken, and the sink below grew by it, or by what was given out of it and of what was owed
abbrev pub PassesHere : Option (List ℕ) → Option (List ℕ) → Option Owed → Option Owed → List ℕ → Type 0
PassesHere old new None None piece = Appends old new piece
PassesHere old new (Some before) (Some after) piece = Passes old new before after piece
PassesHere _ _ _ _ _ = ⊥

-- no piece was taken, and the sink below stays as it was, or grew by a beginning of what was decided
abbrev pub GivesSomeHere : Option (List ℕ) → Option (List ℕ) → Option Owed → Option Owed → Type 0
GivesSomeHere old new None None = Keeps old new
GivesSomeHere old new (Some before) (Some after) = GivesSome old new before after
GivesSomeHere _ _ _ _ = ⊥

-- a turn ends, if one was wrapped; or it failed
abbrev pub EndsHere : {E : Type 0} → Option (List ℕ) → Option (List ℕ) → Option Owed → Option Owed → Result Unit E → Type 0
EndsHere old new None None outcome = Keeps old new
EndsHere old new (Some before) (Some after) outcome = Ends old new before after outcome
EndsHere _ _ _ _ _ = ⊥
