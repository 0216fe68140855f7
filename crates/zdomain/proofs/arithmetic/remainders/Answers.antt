use Rattle.std.proofs.Common.{rules, sym, ◌∙◌}
use Rattle.zdomain.proofs.Reading.{Short, low_remainder, high_remainder}
use Rattle.zdomain.proofs.arithmetic.remainders.Goals as goal

pub returns : goal.returns
returns c =
    let a = c.args.a in let b = c.args.b in
    let fits : Short a.lo × Short a.hi × Short b.lo × Short b.hi = (search rules, search rules, search rules, search rules) in
    let made = rw (
      low_remainder b c.min.result c.max-low.result a.lo c.low.result c.reach-reach.result fits.2 fits.3 fits.0 c.low.ensures c.reach-reach.ensures c.min.ensures.value c.max-low.ensures.value,
      high_remainder b c.max.result c.min-high.result a.hi c.high.result c.reach-reach.result fits.2 fits.3 fits.1 c.high.ensures c.reach-reach.ensures c.max.ensures.value c.min-high.ensures.value,
    ) at c.fitting.ensures in
    rw (sym c.has_zero.ensures ∙ c.if-has_zero.false) made
