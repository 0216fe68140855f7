use Rattle.std.proofs.Common.{sym}
use Rattle.zplay.proofs.Kept.{able_back, in_play_back, inside_back, loaded_back, state_back}
use Rattle.zplay.proofs.Playing.{few}
use Rattle.zplay.proofs.session.Session.put_back.Goals as goal

pub stand-requires-clause-few : goal.stand-requires-clause-few
stand-requires-clause-few g c = few g.V.Domain.operations g.met.V.Domain.sound g.V.Spelled.format _ _ _ _ c.self.invariant

pub stand-requires-clause-state : goal.stand-requires-clause-state
stand-requires-clause-state g c =
    let kept = rw (sym c.self.view_is) at c.requires in
    state_back g.V.Domain.operations g.met.V.Domain.sound g.V.Spelled.format _ _ _ _ c.self.invariant c.args.state.now kept

pub stand-requires-clause-loaded : goal.stand-requires-clause-loaded
stand-requires-clause-loaded g c =
    let kept = rw (sym c.self.view_is) at c.requires in
    loaded_back g.V.Domain.operations g.met.V.Domain.sound g.V.Spelled.format _ _ _ _ c.self.invariant c.args.state.now kept

pub stand-requires-clause-inside : goal.stand-requires-clause-inside
stand-requires-clause-inside g c =
    let kept = rw (sym c.self.view_is) at c.requires in
    inside_back g.V.Domain.operations g.met.V.Domain.sound g.V.Spelled.format _ _ _ _ c.self.invariant c.args.state.now kept

pub stand-requires-clause-able : goal.stand-requires-clause-able
stand-requires-clause-able g c =
    let kept = rw (sym c.self.view_is) at c.requires in
    λ e. able_back g.V.Domain.operations g.met.V.Domain.sound g.V.Spelled.format _ _ _ _ c.self.invariant c.args.state.now kept

pub invariant_of-self : goal.invariant_of-self
invariant_of-self g c =
    let kept = rw (sym c.self.view_is) at c.requires in
    in_play_back g.V.Domain.operations g.met.V.Domain.sound g.V.Spelled.format _ _ _ _ c.self.invariant c.args.state.now kept _ _ _ c.stand.result c.stand.ensures.play c.stand.ensures.words c.stand.ensures.ok c.stand.ensures.same
