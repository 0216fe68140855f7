use Rattle.std.proofs.Common.{arith, ◌≡◌, ◌∙◌, ◌<◌, List, ℕ, Some, ap, length, slice_get, subst, sym, refl}
use Rattle.zquetzal.specs.View.{given_frame}
use Rattle.zstate.specs.Saves.{kept_frame, saved_of}
use Rattle.zengine.specs.Lying.{Lies, SavedGame, frame_lying}
use Rattle.zengine.proofs.Kept.{each_frame}
use Rattle.zmachine.proofs.Walking.{count_is, lent_there, lies_there}
use Rattle.zmachine.proofs.parts.PartsSaveParts.frame.Goals as goal

pub overflow_sub-self-inside : goal.overflow_sub-self-inside
overflow_sub-self-inside g c =
    let asked = subst (λ (s : SavedGame). c.args.number < length (saved_of s.story s.state).frames) (sym c.self.view_is) c.requires in
    let count = count_is _ _ _ c.self.invariant in
    omega (arith, asked, count)

pub lent-requires : goal.lent-requires
lent-requires g c =
    let asked = subst (λ (s : SavedGame). c.args.number < length (saved_of s.story s.state).frames) (sym c.self.view_is) c.requires in
    subst (λ (ws : List ℕ). Lies (g.R.Rows.game c.self.inside.rows.now).spots ws c.lying_at-lying.result) (sym c.deref.ensures.value) (lies_there _ _ _ c.self.invariant c.args.number _ asked refl _ c.lying_at-lying.ensures)

pub returns-clause-value : goal.returns-clause-value
returns-clause-value g c =
    let asked = subst (λ (s : SavedGame). c.args.number < length (saved_of s.story s.state).frames) (sym c.self.view_is) c.requires in
    subst (λ (s : SavedGame). slice_get (saved_of s.story s.state).frames c.args.number ≡ Some (given_frame c.lent.result)) c.self.view_is (lent_there _ _ _ c.self.invariant c.args.number _ asked refl _ c.lying_at-lying.ensures _ (c.lent.ensures ∙ ap (λ (ws : List ℕ). kept_frame (frame_lying (g.R.Rows.game c.self.inside.rows.now).spots ws c.lying_at-lying.result)) c.deref.ensures.value))

pub returns-clause-frame : goal.returns-clause-frame
returns-clause-frame g c =
    let asked = subst (λ (s : SavedGame). c.args.number < length (saved_of s.story s.state).frames) (sym c.self.view_is) c.requires in
    each_frame _ c.args.number _ c.self.invariant.writes.whole.frames (lent_there _ _ _ c.self.invariant c.args.number _ asked refl _ c.lying_at-lying.ensures _ (c.lent.ensures ∙ ap (λ (ws : List ℕ). kept_frame (frame_lying (g.R.Rows.game c.self.inside.rows.now).spots ws c.lying_at-lying.result)) c.deref.ensures.value))
