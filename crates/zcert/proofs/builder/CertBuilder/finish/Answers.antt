use Rattle.zcert.proofs.Makes.{reached_has_spelling}
use Rattle.zcert.proofs.builder.CertBuilder.finish.Goals as goal

pub new-requires : goal.new-requires
new-requires g c = reached_has_spelling g.V.Spelled.format g.met.V.Spelled.is_format _ c.self.invariant c.in-Complete.is
