use Rattle.zcert.proofs.Calls.{reached_due, reached_after}
use Rattle.zcert.proofs.builder.CertBuilder.take.Goals as goal

pub take-requires : goal.take-requires
take-requires g c = reached_due g.V.Spelled.format _ c.self.invariant

pub invariant_of-self : goal.invariant_of-self
invariant_of-self g c = reached_after g.V.Spelled.format _ _ _ _ c.self.invariant c.take.ensures.fits c.take.ensures.takes
