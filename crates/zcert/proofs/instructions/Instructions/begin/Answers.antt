use Rattle.zcert.proofs.Stores.{no_sets}
use Rattle.zcert.proofs.instructions.Instructions.begin.Goals as goal

pub returns-clause-values : goal.returns-clause-values
returns-clause-values g c = no_sets g.V.Spelled.format g.V.Spelled.keeping g.met.V.Spelled.are_kept _
