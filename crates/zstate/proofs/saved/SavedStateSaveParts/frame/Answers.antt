use Rattle.std.proofs.Common.{◌∙◌, Some, ap, subst}
use Rattle.zquetzal.specs.Saved.{Frame, IsFrame}
use Rattle.zstate.proofs.Saves.{frame_at_number, kept_is}
use Rattle.zstate.proofs.saved.SavedStateSaveParts.frame.Goals as goal

pub returns-clause-value : goal.returns-clause-value
returns-clause-value c =
    let s = c.self.inside.state.now in
    let there = frame_at_number s.frame s.callers c.args.number c.frame_from-frame.result c.self.invariant.is_state.frames c.frame_from-frame.ensures in
    rw (← c.self.view_is) (there.0 ∙ ap (λ (f : Frame). Some f) (kept_is c.frame_from-frame.result _ _ _ _ _ c.frame.view_is))

pub returns-clause-frame : goal.returns-clause-frame
returns-clause-frame c =
    let s = c.self.inside.state.now in
    let there = frame_at_number s.frame s.callers c.args.number c.frame_from-frame.result c.self.invariant.is_state.frames c.frame_from-frame.ensures in
    subst IsFrame (kept_is c.frame_from-frame.result _ _ _ _ _ c.frame.view_is) there.1
