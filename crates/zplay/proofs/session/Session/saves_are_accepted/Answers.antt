use Rattle.zplay.proofs.Saving.{saved_taken, accepted_fine}
use Rattle.zplay.proofs.Machine.{accepts_accepted}
use Rattle.zplay.proofs.session.Session.saves_are_accepted.Goals as goal

pub returns-clause-described : goal.returns-clause-described
returns-clause-described g c = rw (← c.self.view_is) c.self.invariant.described

pub returns-clause-saved : goal.returns-clause-saved
returns-clause-saved g c = rw (← c.self.view_is) (saved_taken g.V.Domain.operations g.met.V.Domain.sound g.V.Spelled.format _ _ _ _ c.self.invariant (c.saves_are_accepted.ensures.saved _))

pub returns-clause-accepted : goal.returns-clause-accepted
returns-clause-accepted g c = rw (← c.self.view_is) (accepts_accepted g.V.Domain.operations g.met.V.Domain.sound g.V.Spelled.format _ c.self.invariant.accepted _ c.self.invariant.described)

pub returns-clause-fine : goal.returns-clause-fine
returns-clause-fine g c = rw (← c.self.view_is) (accepted_fine g.V.Domain.operations g.met.V.Domain.sound g.V.Spelled.format _ _ _ _ c.self.invariant (c.saves_are_accepted.ensures.fine _))
