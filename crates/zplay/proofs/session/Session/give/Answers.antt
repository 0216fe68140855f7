use Rattle.zplay.proofs.Playing.{able_given, in_play_given}
use Rattle.zplay.proofs.session.Session.give.Goals as goal

pub give-requires : goal.give-requires
give-requires g c = record { able = λ e. able_given g.V.Domain.operations g.met.V.Domain.sound g.V.Spelled.format _ _ _ _ c.self.invariant c.args.event }

pub invariant_of-self : goal.invariant_of-self
invariant_of-self g c = rw c.give.ensures (in_play_given g.V.Domain.operations g.met.V.Domain.sound g.V.Spelled.format _ _ _ _ c.self.invariant c.args.event)
