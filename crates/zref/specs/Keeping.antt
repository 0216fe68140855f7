-- States that are kept of a play.
use Rattle.zmachine.specs.Parts.{IsInside}
use Rattle.zmachine.specs.Rows.{IsAsLoaded}
use Rattle.zstate.specs.State.{IsState, Setting, State}

-- a state of what is played, which a machine may be put into: its place lies in memory, and static memory is as it was loaded
pub record IsKeptOf (m : Setting) (s : State) : Type 0 where
  pub state : IsState m.limit m.story s
  pub loaded : IsAsLoaded m.story s.memory
  pub inside : IsInside s
