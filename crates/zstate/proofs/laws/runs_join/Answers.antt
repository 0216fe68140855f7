use Rattle.zstate.proofs.Joins.{steps_join, inputs_join}
use Rattle.zstate.proofs.laws.runs_join.Goals as goal

pub returns-clause-steps : goal.returns-clause-steps
returns-clause-steps c = steps_join

pub returns-clause-inputs : goal.returns-clause-inputs
returns-clause-inputs c = inputs_join
