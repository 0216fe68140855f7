-- The states that are kept, the newest last.
use Rattle.std.specs.Prelude.{◌≡◌, ◌⊎◌, List, [], ◌∷◌, ◌++◌, length, drop, nat_lt, if◌then◌else◌}
use Rattle.zstate.specs.State.{State}
use Rattle.zprompt.specs.declared.turns.TheConstants.{MOST_TURNS}

-- without the oldest, where there are as many as may be
abbrev pub room_of : List State → List State
room_of turns = if nat_lt (length turns) MOST_TURNS then turns else drop 1 turns

-- one is kept more, or none at all where memory is refused
abbrev pub Keeps : State → List State → List State → Type 0
Keeps state old new = (new ≡ room_of old ++ state ∷ []) ⊎ (new ≡ [])
