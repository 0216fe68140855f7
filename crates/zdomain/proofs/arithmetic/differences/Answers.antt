use Rattle.std.proofs.Common.{◌-ℤ◌, rules}
use Rattle.zdomain.proofs.Reading.{Short, results_read, difference_near}
use Rattle.zdomain.proofs.arithmetic.differences.Goals as goal

pub returns : goal.returns
returns c =
    let a = c.args.a in let b = c.args.b in
    let fits : Short a.lo × Short a.hi × Short b.lo × Short b.hi = (search rules, search rules, search rules, search rules) in
    rw (
      results_read ◌-ℤ◌ difference_near a.lo b.hi c.low.result c.high.result fits.0 fits.3 c.low.ensures c.high.ensures,
      results_read ◌-ℤ◌ difference_near a.hi b.lo c.high-2.result c.low-2.result fits.1 fits.2 c.high-2.ensures c.low-2.ensures,
    ) at c.fitting.ensures
