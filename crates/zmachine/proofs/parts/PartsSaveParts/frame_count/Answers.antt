use Rattle.std.proofs.Common.{◌≡◌, ◌+◌, arith, length, subst}
use Rattle.zstate.specs.Saves.{saved_of}
use Rattle.zengine.specs.Lying.{SavedGame}
use Rattle.zengine.proofs.Kept.{most_of}
use Rattle.zmachine.proofs.Walking.{count_is}
use Rattle.zmachine.proofs.parts.PartsSaveParts.frame_count.Goals as goal

pub overflow_add-result : goal.overflow_add-result
overflow_add-result g c = let most = most_of _ c.self.invariant.writes.whole.frames in let count = count_is _ _ _ c.self.invariant in omega (arith, most, count)

pub returns-clause-value : goal.returns-clause-value
returns-clause-value g c = subst (λ (s : SavedGame). c.self.inside.board.now.above + 1 ≡ length (saved_of s.story s.state).frames) c.self.view_is (count_is _ _ _ c.self.invariant)

pub returns-clause-most : goal.returns-clause-most
returns-clause-most g c = let most = most_of _ c.self.invariant.writes.whole.frames in let count = count_is _ _ _ c.self.invariant in omega (arith, most, count)
