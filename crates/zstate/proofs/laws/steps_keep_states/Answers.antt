use Rattle.zstate.proofs.Keeps.{step_keeps}
use Rattle.zstate.proofs.laws.steps_keep_states.Goals as goal

pub returns : goal.returns
returns c = step_keeps
