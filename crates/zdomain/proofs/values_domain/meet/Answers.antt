use Rattle.std.proofs.Common.{refl}
use Rattle.zdomain.proofs.values_domain.meet.Goals as goal

pub returns-in-Run-List : goal.returns-in-Run-List
returns-in-Run-List c = rw (c.common.ensures, c.in-Run-List.is-0, c.in-Run-List.is-1) refl

pub returns-in-List-default : goal.returns-in-List-default
returns-in-List-default c = rw (c.common-in-List-default.ensures, c.in-List-default.is-0) refl
