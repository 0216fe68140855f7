use Rattle.std.proofs.Common.{ap, ◌∙◌}
use Rattle.zdomain.specs.Values.{found}
use Rattle.zdomain.proofs.values_domain.common.Goals as goal

pub returns : goal.returns
returns c = c.found.ensures ∙ ap found c.shared.ensures
