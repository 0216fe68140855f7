use Rattle.zprompt.proofs.Ends.{no_fault}
use Rattle.zprompt.proofs.playing.play_story_in.Goals as goal

pub returns-clause-no_fault : goal.returns-clause-no_fault
returns-clause-no_fault g c = no_fault c.play_in.result c.play_in.ensures.ends
