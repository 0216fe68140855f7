use Rattle.std.proofs.Common.{refl}
use Rattle.zrule.proofs.Elsewhere.{accepted_fine, saved_accepted}
use Rattle.zrule.proofs.laws.saves_are_accepted.Goals as goal

pub returns-clause-fine : goal.returns-clause-fine
returns-clause-fine g c = λ claims m scope bytes s loaded supports accepted. accepted_fine g.V.Domain.operations claims m loaded supports scope bytes s accepted

pub returns-clause-saved : goal.returns-clause-saved
returns-clause-saved g c = λ claims m s now loaded supports low d asked is. saved_accepted g.V.Domain.operations claims m loaded supports s now (λ p at. refl) low d asked is
