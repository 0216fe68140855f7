use Rattle.std.proofs.Common.{◌≡◌, arith, length, subst}
use Rattle.zstate.specs.Saves.{saved_of}
use Rattle.zengine.specs.Lying.{SavedGame}
use Rattle.zengine.proofs.Kept.{count_is, most_of}
use Rattle.zengine.proofs.saving.SavedBoardSaveParts.frame_count.Goals as goal

pub returns-clause-value : goal.returns-clause-value
returns-clause-value g c = subst (λ (s : SavedGame). length c.self.inside.frames.now ≡ length (saved_of s.story s.state).frames) c.self.view_is (count_is _ _ _ c.self.invariant.lying)

pub returns-clause-most : goal.returns-clause-most
returns-clause-most g c = let most = most_of _ c.self.invariant.whole.frames in let count = count_is _ _ _ c.self.invariant.lying in omega (arith, most, count)
