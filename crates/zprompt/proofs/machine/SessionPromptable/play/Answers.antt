use Rattle.zprompt.proofs.Ends.{ends_well}
use Rattle.zprompt.proofs.machine.SessionPromptable.play.Goals as goal

pub returns-clause-ends : goal.returns-clause-ends
returns-clause-ends g c = ends_well c.play_story.result c.play_story.ensures.no_fault
