use Rattle.zplay.proofs.Machine.{moves_as_machine}
use Rattle.zplay.proofs.session.Session.moves_as_machine.Goals as goal

pub returns : goal.returns
returns g c = rw (← c.self.view_is) (moves_as_machine g.V.Domain.operations g.met.V.Domain.sound g.V.Spelled.format _ c.self.invariant.accepted _ c.self.invariant.described)
