use Rattle.zstate.proofs.Saves.{saves_go_on, saves_keep, states_are_saved}
use Rattle.zstate.proofs.laws.saves_are_states.Goals as goal

pub returns-clause-keep : goal.returns-clause-keep
returns-clause-keep c = saves_keep

pub returns-clause-saved : goal.returns-clause-saved
returns-clause-saved c = states_are_saved

pub returns-clause-on : goal.returns-clause-on
returns-clause-on c = saves_go_on
