use Rattle.zcert.proofs.Makes.{makes_spelled, each_is_made}
use Rattle.zcert.proofs.laws.fields_make_certificates.Goals as goal

pub returns-clause-spelled : goal.returns-clause-spelled
returns-clause-spelled g c = makes_spelled g.V.Spelled.format g.met.V.Spelled.is_format

pub returns-clause-each : goal.returns-clause-each
returns-clause-each g c = each_is_made g.V.Spelled.format g.met.V.Spelled.is_format
