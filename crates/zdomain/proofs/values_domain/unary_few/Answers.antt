use Rattle.std.proofs.Common.{refl}
use Rattle.zdomain.proofs.values_domain.unary_few.Goals as goal

pub returns-in-Some : goal.returns-in-Some
returns-in-Some c = rw (c.packed.ensures, c.add_turned.ensures, c.as_slice.ensures.words, c.none-all.ensures, c.in-Some.is) refl
