use Rattle.std.proofs.Common.{◌≡◌, ◌∙◌, ◌-◌, ◌<◌, ℕ, List, Some, ap, arith, get_or, length, slice_get, subst, sym}
use Rattle.zquetzal.specs.View.{given_frame}
use Rattle.zstate.specs.Saves.{kept_frame, saved_of}
use Rattle.zengine.specs.Lying.{Lies, SavedGame, frame_lying}
use Rattle.zengine.proofs.Kept.{count_is, each_frame, given_as, lies}
use Rattle.zengine.proofs.saving.SavedBoardSaveParts.frame.Goals as goal

pub lent-requires : goal.lent-requires
lent-requires g c = let count = count_is _ _ _ c.self.invariant.lying in let asked = subst (λ (s : SavedGame). c.args.number < length (saved_of s.story s.state).frames) (sym c.self.view_is) c.requires in subst (λ (ws : List ℕ). Lies (g.S.Spots.spots c.self.inside.spots.now) ws (get_or c.self.inside.frames.now (length c.self.inside.frames.now - 1 - c.args.number) (record { base = 0; count = 0; height = 0 }))) (sym c.deref.ensures.value) (lies _ _ _ c.self.invariant.lying c.args.number (omega (arith, count, asked)) _)

pub returns-clause-value : goal.returns-clause-value
returns-clause-value g c = let count = count_is _ _ _ c.self.invariant.lying in let asked = subst (λ (s : SavedGame). c.args.number < length (saved_of s.story s.state).frames) (sym c.self.view_is) c.requires in subst (λ (s : SavedGame). slice_get (saved_of s.story s.state).frames c.args.number ≡ Some (given_frame c.lent.result)) c.self.view_is (given_as _ _ _ c.self.invariant.lying c.args.number (omega (arith, count, asked)) _ _ (c.lent.ensures ∙ ap (λ (ws : List ℕ). kept_frame (frame_lying (g.S.Spots.spots c.self.inside.spots.now) ws (get_or c.self.inside.frames.now (length c.self.inside.frames.now - 1 - c.args.number) (record { base = 0; count = 0; height = 0 })))) c.deref.ensures.value))

pub returns-clause-frame : goal.returns-clause-frame
returns-clause-frame g c = let count = count_is _ _ _ c.self.invariant.lying in let asked = subst (λ (s : SavedGame). c.args.number < length (saved_of s.story s.state).frames) (sym c.self.view_is) c.requires in each_frame _ c.args.number _ c.self.invariant.whole.frames (given_as _ _ _ c.self.invariant.lying c.args.number (omega (arith, count, asked)) _ _ (c.lent.ensures ∙ ap (λ (ws : List ℕ). kept_frame (frame_lying (g.S.Spots.spots c.self.inside.spots.now) ws (get_or c.self.inside.frames.now (length c.self.inside.frames.now - 1 - c.args.number) (record { base = 0; count = 0; height = 0 })))) c.deref.ensures.value))
