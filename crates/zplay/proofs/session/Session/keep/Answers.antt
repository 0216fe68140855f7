use Rattle.zplay.proofs.Kept.{kept_of}
use Rattle.zplay.proofs.Playing.{few, inside}
use Rattle.zplay.proofs.session.Session.keep.Goals as goal

pub state-requires-clause-few : goal.state-requires-clause-few
state-requires-clause-few g c = few g.V.Domain.operations g.met.V.Domain.sound g.V.Spelled.format _ _ _ _ c.self.invariant

pub state-requires-clause-inside : goal.state-requires-clause-inside
state-requires-clause-inside g c = inside g.V.Domain.operations g.met.V.Domain.sound g.V.Spelled.format _ c.self.invariant.accepted _ c.self.invariant.described

pub returns : goal.returns
returns g c = rw (← c.self.view_is) (kept_of g.V.Domain.operations g.met.V.Domain.sound g.V.Spelled.format _ _ _ _ c.self.invariant c.state.result c.state.ensures.value c.state.ensures.loaded)
