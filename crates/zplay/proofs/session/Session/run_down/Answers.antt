use Rattle.std.proofs.Common.{subst}
use Rattle.zstate.specs.Run.{GivesOut}
use Rattle.zstate.specs.State.{Setting, State}
use Rattle.zlink.specs.Laid.{setting_of}
use Rattle.zplay.proofs.Playing.{gives_out, in_play_after, roomy_there}
use Rattle.zplay.proofs.session.Session.run_down.Goals as goal
use Rattle.zplay.proofs.session.Session.run_down.Goals.{in-Ok-Paused, in-Err}

pub invariant_of-self : goal.invariant_of-self
invariant_of-self g c =
    let made = c.run_down.ensures.made in
    in_play_after g.V.Domain.operations g.met.V.Domain.sound g.V.Spelled.format _ _ _ _ c.self.invariant _ _ made.0 _ made.2.given c.run_down.ensures.play c.run_down.ensures.words made.2.goes

pub returns-clause-err : goal.returns-clause-err
returns-clause-err g c =
    let room = roomy_there g.V.Domain.operations g.met.V.Domain.sound g.V.Spelled.format _ _ _ _ (invariant_of-self g c) in
    elim c.match-run_down.branch [
      | in-Ok-Paused w ↦ rw w.result-is tt
      | in-Err w ↦ rw (w.result-is, ← c.self.view_is) (subst (λ (n : Setting). GivesOut n c.run_down.new.self.state) c.self.invariant.played_in (gives_out (λ (s : State). ⊥) (setting_of c.self.inside.machine.rows) c.run_down.new.self.words c.run_down.new.self.state (λ s none. none) room w.in-Err.field-0 w.in-Err.ensures.err w.in-Err.ensures.room))
    ]
