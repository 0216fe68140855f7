use Rattle.zlenient.proofs.Answering.{answers_are, others_stay}
use Rattle.zlenient.proofs.Noting.{notes_few}
use Rattle.zlenient.proofs.Staying.{run_stays, step_stays}
use Rattle.zlenient.proofs.laws.lenient_steps.Goals as goal

pub returns-clause-steps : goal.returns-clause-steps
returns-clause-steps c = step_stays

pub returns-clause-runs : goal.returns-clause-runs
returns-clause-runs c = run_stays

pub returns-clause-answers : goal.returns-clause-answers
returns-clause-answers c = answers_are

pub returns-clause-notes : goal.returns-clause-notes
returns-clause-notes c = notes_few

pub returns-clause-others : goal.returns-clause-others
returns-clause-others c = others_stay
