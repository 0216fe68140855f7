use Rattle.std.proofs.Common.{◌∙◌, rules}
use Rattle.zquetzal.specs.Reading.{Once}
use Rattle.zunpack.specs.View.{seen_found}
use Rattle.zunpack.proofs.Cutting.{only_data}
use Rattle.zunpack.proofs.chunk.only.Goals as goal

pub returns-in-Once : goal.returns-in-Once
returns-in-Once c = λ chunks cut. only_data c.args.id chunks (Once c.in-Once.contents.now) (c.in-Once.ensures chunks cut)

pub returns-in-Absent : goal.returns-in-Absent
returns-in-Absent c = λ chunks cut. only_data c.args.id chunks (seen_found c.survey.result) (c.survey.ensures chunks cut) ∙ search rules
