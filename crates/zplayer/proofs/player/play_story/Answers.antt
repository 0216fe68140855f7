use Rattle.std.proofs.Common.{[], ap}
use Rattle.zplay.specs.Session.{setting_of}
use Rattle.zplayer.proofs.Ends.{at_end, finished_well}
use Rattle.zplayer.proofs.player.play_story.Goals as goal

pub returns-clause-no_fault : goal.returns-clause-no_fault
returns-clause-no_fault g c = at_end _ _ _ c.play_machine-played.result c.play_machine-played.ensures.comes.1.2 (λ end finished. finished_well _ _ _ _ _ _ _ end _ (ap setting_of c.play_machine-played.ensures.play) (c.never_faults.ensures [] _ tt) finished)
