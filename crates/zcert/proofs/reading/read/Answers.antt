use Rattle.std.proofs.Common.{rules}
use Rattle.zcert.proofs.Follows.{is_found, is_only}
use Rattle.zcert.proofs.reading.read.Goals as goal

pub returns-clause-found : goal.returns-clause-found
returns-clause-found g c = is_found g.V.Spelled.format g.met.V.Spelled.is_format _ _ (λ i. search rules) c.certificate_of.ensures.exact

pub returns-clause-only : goal.returns-clause-only
returns-clause-only g c = is_only g.V.Spelled.format g.met.V.Spelled.is_format _ _ c.certificate_of.ensures.exact
