use Rattle.zdomain.proofs.Reading.{least_read, greatest_read}
use Rattle.zdomain.proofs.arithmetic.around.Goals as goal

pub returns : goal.returns
returns c =
    let x = c.args in let r = c.ranges in
    rw (
      least_read x.a x.b x.c x.d c.min.result c.min-2.result c.min-3.result r.a r.b r.c r.d c.min.ensures.value c.min-2.ensures.value c.min-3.ensures.value,
      greatest_read x.a x.b x.c x.d c.max.result c.max-2.result c.max-3.result r.a r.b r.c r.d c.max.ensures.value c.max-2.ensures.value c.max-3.ensures.value,
    ) at c.fitting.ensures
