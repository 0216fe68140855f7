use Rattle.zplay.proofs.Playing.{runs_fine}
use Rattle.zplay.proofs.session.Session.never_faults.Goals as goal

pub returns : goal.returns
returns g c = rw (← c.self.view_is) (runs_fine g.V.Domain.operations g.met.V.Domain.sound g.V.Spelled.format _ _ _ _ c.self.invariant (c.each_step_is_safe.ensures.runs _))
