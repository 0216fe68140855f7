use Rattle.zcert.proofs.Refused.{in_turn, out_of_turn, at_end}
use Rattle.zcert.proofs.laws.builders_refuse_as_readers.Goals as goal

pub returns-clause-in_turn : goal.returns-clause-in_turn
returns-clause-in_turn g c = in_turn g.V.Spelled.format g.met.V.Spelled.is_format

pub returns-clause-out_of_turn : goal.returns-clause-out_of_turn
returns-clause-out_of_turn g c = out_of_turn

pub returns-clause-at_end : goal.returns-clause-at_end
returns-clause-at_end g c = at_end g.V.Spelled.format g.met.V.Spelled.is_format
