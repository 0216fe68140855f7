use Rattle.std.proofs.Common.{refl, sym, ap}
use Rattle.zdomain.specs.Few.{none_gathered}
use Rattle.zdomain.specs.Values.{packed}
use Rattle.zdomain.proofs.Gathering.{one_by_one}
use Rattle.zdomain.proofs.values_domain.join_few.Goals as goal

pub returns-in-Some-Some : goal.returns-in-Some-Some
returns-in-Some-Some c = rw (c.packed.ensures, c.add_all-in-Some-Some.ensures, c.add_all.ensures, c.as_slice.ensures.words, c.as_slice-in-Some-Some.ensures.words, c.none-all.ensures, c.in-Some-Some.is-0, c.in-Some-Some.is-1) (ap packed (sym (one_by_one c.in-Some-Some.first c.in-Some-Some.second none_gathered)))

pub returns-in-Some-None : goal.returns-in-Some-None
returns-in-Some-None c = rw (c.join.ensures, c.hull.ensures, c.hull-in-Some-None.ensures, c.in-Some-None.is-0, c.in-Some-None.is-1) refl

pub returns-in-None-default : goal.returns-in-None-default
returns-in-None-default c = rw (c.join-in-None-default.ensures, c.hull-in-None-default.ensures, c.hull-in-None-default-2.ensures, c.in-None-default.is-0) refl
