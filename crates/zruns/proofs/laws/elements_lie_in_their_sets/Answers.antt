use Rattle.std.specs.Prelude.{IsTrue}
use Rattle.zruns.proofs.Reached.{reached}
use Rattle.zruns.proofs.Lying.{elements_lie}
use Rattle.zruns.proofs.laws.elements_lie_in_their_sets.Goals as goal

pub returns-clause-places : goal.returns-clause-places
returns-clause-places g c width arrays indices holds = reached g.V.Domain.operations g.met.V.Domain.sound width arrays indices (λ p. IsTrue (holds p))

pub returns-clause-elements : goal.returns-clause-elements
returns-clause-elements g c = elements_lie g.V.Domain.operations g.met.V.Domain.sound
