use Rattle.zplay.proofs.Playing.{few, inside}
use Rattle.zplay.proofs.session.Session.parts.Goals as goal

pub parts-requires-clause-inside : goal.parts-requires-clause-inside
parts-requires-clause-inside g c = inside g.V.Domain.operations g.met.V.Domain.sound g.V.Spelled.format _ c.self.invariant.accepted _ c.self.invariant.described

pub parts-requires-clause-few : goal.parts-requires-clause-few
parts-requires-clause-few g c = few g.V.Domain.operations g.met.V.Domain.sound g.V.Spelled.format _ _ _ _ c.self.invariant
