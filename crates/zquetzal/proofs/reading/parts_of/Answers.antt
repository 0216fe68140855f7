use Rattle.zquetzal.specs.View.{seen_survey}
use Rattle.zquetzal.proofs.Saves.{header_given}
use Rattle.zquetzal.proofs.reading.parts_of.Goals as goal

pub returns-clause-header : goal.returns-clause-header
returns-clause-header c = header_given c.args.body.now (seen_survey c.in_ok-surveyed.field-0) c.parts.result c.in_ok-surveyed.ensures c.parts.ensures
