-- What a sink that wraps has taken and hasn't given out (own).
use Rattle.std.specs.Prelude.{◌≡◌, ℕ, ◌+◌, ◌≤◌, Bool, List, [], ◌++◌, length, Option}
use Rattle.std.specs.Io.KnownBytes.{Appends}
use Rattle.zfault.specs.Devices.{waits_after}
use Rattle.zfront.specs.Wrapping.{Wrapping, IsHeld, coming, settled}

-- what of it is decided, and behind that what is held
pub record Owed : Type 0 where
  pub decided : List ℕ
  pub wrapping : Wrapping

-- all of it
abbrev pub bytes_owed : Owed → List ℕ
bytes_owed owed = owed.decided ++ owed.wrapping.held

-- what is still to be given out of it, once this text follows
abbrev pub owed_then : Owed → List ℕ → List ℕ
owed_then owed text = owed.decided ++ coming owed.wrapping text

-- a beginning of these bytes was given out, and waits below for a flush; the others are left
pub record GivesOut (old new : Option (List ℕ)) (before now : Bool) (bytes left : List ℕ) : Type 0 where
  pub given : List ℕ
  pub whole : bytes ≡ given ++ left
  pub grown : Appends old new given
  pub waits : now ≡ waits_after before given

-- A piece was taken, and the writer below grew by what was given out. With what is owed now that is the wrapping of what was owed and of
-- the piece, and whatever follows, it was right.
pub record Passes (old new : Option (List ℕ)) (before after : Owed) (piece : List ℕ) : Type 0 where
  pub given : List ℕ
  pub grown : Appends old new given
  pub width : after.wrapping.width ≡ before.wrapping.width
  pub whole : owed_then before piece ≡ given ++ bytes_owed after
  pub later : (text : List ℕ) → owed_then before (piece ++ text) ≡ given ++ owed_then after text

-- No piece was taken, and the writer below grew by a beginning of what was decided.
pub record GivesSome (old new : Option (List ℕ)) (before after : Owed) : Type 0 where
  pub given : List ℕ
  pub grown : Appends old new given
  pub whole : before.decided ≡ given ++ after.decided
  pub kept : after.wrapping ≡ before.wrapping

-- All that was owed is decided, and the writer below grew by what was given out of it.
pub record Finishes (old new : Option (List ℕ)) (before after : Owed) : Type 0 where
  pub given : List ℕ
  pub grown : Appends old new given
  pub whole : bytes_owed before ≡ given ++ after.decided
  pub finished : after.wrapping ≡ settled before.wrapping

-- what is known of it: how much of what was decided is given out; that what is held is as it has to be; and that there is room for all of it
pub record IsPending (decided : List ℕ) (given : ℕ) (wrapping : Wrapping) (room : ℕ) : Type 0 where
  pub within : given ≤ length decided
  pub fits : IsHeld wrapping.width wrapping.column wrapping.held
  pub bound : length decided + length wrapping.held ≤ 1024 + wrapping.width
  pub kept : 1024 + wrapping.width ≤ room

-- nothing, at the beginning of a line of this width
abbrev pub nothing_owed : ℕ → Owed
nothing_owed width = record { decided = []; wrapping = record { width = width; column = 0; held = [] } }

-- what comes is at the beginning of a line
abbrev pub at_beginning : Owed → Owed
at_beginning owed = record { decided = owed.decided; wrapping = record { width = owed.wrapping.width; column = 0; held = owed.wrapping.held } }
