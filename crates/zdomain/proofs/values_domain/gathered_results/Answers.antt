use Rattle.std.proofs.Common.{refl}
use Rattle.zdomain.proofs.values_domain.gathered_results.Goals as goal

pub returns : goal.returns
returns c = rw (c.packed.ensures, c.add_results.ensures, c.none-all.ensures) refl
