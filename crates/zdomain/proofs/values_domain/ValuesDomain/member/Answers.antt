use Rattle.std.proofs.Common.{rules, ap, ◌∙◌}
use Rattle.zdomain.specs.Few.{first_of}
use Rattle.zdomain.specs.ValuesLaw.{run_has, list_first}
use Rattle.zdomain.proofs.values_domain.ValuesDomain.member.Goals as goal

pub returns-in-Run : goal.returns-in-Run
returns-in-Run c = rw c.in-Run.is (run_has _ _ c.member.ensures)

pub returns-in-List : goal.returns-in-List
returns-in-List c = rw c.in-List.is (list_first c.in-List.list _ (search rules) (c.first_of.ensures ∙ ap first_of c.as_slice.ensures.words))
