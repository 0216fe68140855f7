use Rattle.std.proofs.Common.{rules, arith}
use Rattle.std.proofs.lemmas.Int.{ints, clamps}
use Rattle.zdomain.proofs.Reading.{Short, end_read, less_read, more_read}
use Rattle.zdomain.proofs.edges.below.Goals as goal

pub between-requires-2-clause-low : goal.between-requires-2-clause-low
between-requires-2-clause-low c =
    let a = c.args.a in let b = c.args.b in
    let fits : Short a.lo × Short b.lo = (search rules, search rules) in
    rw (more_read c.max.result b.lo a.lo c.low-2.result c.low-3.result fits.1 fits.0 c.low-2.ensures c.low-3.ensures c.max.ensures.value) (omega (arith, ints, clamps, fits.1))

pub returns : goal.returns
returns c =
    let a = c.args.a in let b = c.args.b in
    let fits : Short a.lo × Short a.hi × Short b.lo × Short b.hi = (search rules, search rules, search rules, search rules) in
    let first = rw (end_read a.lo c.low.result fits.0 c.low.ensures, less_read c.min.result a.hi b.hi c.high.result c.high-2.result fits.1 fits.3 c.high.ensures c.high-2.ensures c.min.ensures.value) at c.between.ensures in
    let second = rw (more_read c.max.result b.lo a.lo c.low-2.result c.low-3.result fits.2 fits.0 c.low-2.ensures c.low-3.ensures c.max.ensures.value, end_read b.hi c.high-3.result fits.3 c.high-3.ensures) at c.between-2.ensures in
    rw (first, second) at c.both.ensures
