use Rattle.zquetzal.proofs.Saves.{one, written, read_again}
use Rattle.zquetzal.proofs.laws.saves_are_read.Goals as goal

pub returns-clause-relates : goal.returns-clause-relates
returns-clause-relates c = written

pub returns-clause-read : goal.returns-clause-read
returns-clause-read c = read_again

pub returns-clause-one : goal.returns-clause-one
returns-clause-one c = one
