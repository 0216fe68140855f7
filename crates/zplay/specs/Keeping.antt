-- States that are kept of a session.
use Rattle.zdomain.specs.Domain.{SetOperations}
use Rattle.zstate.specs.State.{State}
use Rattle.zrule.specs.Described.{Described}
use Rattle.zcheck.specs.Acceptance.{AcceptanceOver, limit_of}
use Rattle.zmachine.specs.Rows.{IsAsLoaded}
use Rattle.zplay.specs.Accepted.{claims}

-- a state of an accepted story, which a session may be put into: its certificate describes it, and static memory is as it was loaded
pub record IsKeptOf {V : Type 0} (o : SetOperations V) (a : AcceptanceOver V) (s : State) : Type 0 where
  pub described : Described o (claims o a) (limit_of a) a.story s
  pub loaded : IsAsLoaded a.story s.memory
