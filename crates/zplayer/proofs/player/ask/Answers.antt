use Rattle.std.proofs.Common.{refl}
use Rattle.zplayer.proofs.player.ask.Goals as goal

pub returns-in_ok-save-in-Saved-clause-asked : goal.returns-in_ok-save-in-Saved-clause-asked
returns-in_ok-save-in-Saved-clause-asked g c = λ before. rw c.in-Saved.is (c.in_ok-save-in-Saved.ensures.put before, refl, refl)
