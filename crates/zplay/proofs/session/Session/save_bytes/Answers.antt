use Rattle.zplay.proofs.Playing.{few}
use Rattle.zplay.proofs.session.Session.save_bytes.Goals as goal

pub save_bytes-requires-clause-few : goal.save_bytes-requires-clause-few
save_bytes-requires-clause-few g c = few g.V.Domain.operations g.met.V.Domain.sound g.V.Spelled.format _ _ _ _ c.self.invariant
