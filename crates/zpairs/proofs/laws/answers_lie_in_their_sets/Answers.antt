use Rattle.zpairs.proofs.Lying.{value_lies, address_lies, next_lies}
use Rattle.zpairs.proofs.laws.answers_lie_in_their_sets.Goals as goal

pub returns-clause-value : goal.returns-clause-value
returns-clause-value g c = value_lies g.V.Domain.operations g.met.V.Domain.sound

pub returns-clause-address : goal.returns-clause-address
returns-clause-address g c = address_lies g.V.Domain.operations g.met.V.Domain.sound

pub returns-clause-next : goal.returns-clause-next
returns-clause-next g c = next_lies g.V.Domain.operations g.met.V.Domain.sound
