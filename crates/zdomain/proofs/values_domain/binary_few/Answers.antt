use Rattle.std.proofs.Common.{refl}
use Rattle.zdomain.proofs.values_domain.binary_few.Goals as goal

pub returns-in-Some-Some : goal.returns-in-Some-Some
returns-in-Some-Some c = rw (c.results.ensures, c.as_slice.ensures.words, c.as_slice-in-Some-Some.ensures.words, c.in-Some-Some.is-0, c.in-Some-Some.is-1) refl
