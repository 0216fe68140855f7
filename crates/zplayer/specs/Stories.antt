-- Sessions, of which a certificate describes the states.
use Rattle.zdomain.specs.Domain.{SetOperations}
use Rattle.zstate.specs.State.{State}
use Rattle.zrule.specs.Described.{Described}
use Rattle.zcheck.specs.Acceptance.{AcceptanceOver, limit_of}
use Rattle.zplay.specs.Accepted.{claims}

-- a state that is described by the certificate that was accepted: only to such a one a save may lead
abbrev pub Describes : {V : Type 0} → SetOperations V → AcceptanceOver V → State → Type 0
Describes o a s = Described o (claims o a) (limit_of a) a.story s
