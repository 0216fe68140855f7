use Rattle.zcert.proofs.Only.{only, one}
use Rattle.zcert.proofs.laws.spellings_are_read.Goals as goal

pub returns-clause-read : goal.returns-clause-read
returns-clause-read g c = only g.V.Spelled.format g.met.V.Spelled.is_format

pub returns-clause-one : goal.returns-clause-one
returns-clause-one g c = one g.V.Spelled.format g.met.V.Spelled.is_format
