use Rattle.std.proofs.Common.{◌+ℤ◌, rules}
use Rattle.zdomain.proofs.Reading.{Short, results_read, sum_near}
use Rattle.zdomain.proofs.arithmetic.sums.Goals as goal

pub returns : goal.returns
returns c =
    let a = c.args.a in let b = c.args.b in
    let fits : Short a.lo × Short a.hi × Short b.lo × Short b.hi = (search rules, search rules, search rules, search rules) in
    rw (
      results_read ◌+ℤ◌ sum_near a.lo b.lo c.low.result c.low-2.result fits.0 fits.2 c.low.ensures c.low-2.ensures,
      results_read ◌+ℤ◌ sum_near a.hi b.hi c.high.result c.high-2.result fits.1 fits.3 c.high.ensures c.high-2.ensures,
    ) at c.fitting.ensures
