use Rattle.std.proofs.Common.{int_div, rules, sym, ◌∙◌}
use Rattle.zdomain.proofs.Reading.{Short, results_read, division_near}
use Rattle.zdomain.proofs.arithmetic.quotients.Goals as goal

pub returns : goal.returns
returns c =
    let a = c.args.a in let b = c.args.b in
    let fits : Short a.lo × Short a.hi × Short b.lo × Short b.hi = (search rules, search rules, search rules, search rules) in
    rw (sym c.has_zero.ensures ∙ c.if-has_zero.false)
    (rw (
      results_read int_div division_near a.lo b.lo c.low-low.result c.low-other_low.result fits.0 fits.2 c.low-low.ensures c.low-other_low.ensures,
      results_read int_div division_near a.lo b.hi c.low-low.result c.high-other_high.result fits.0 fits.3 c.low-low.ensures c.high-other_high.ensures,
      results_read int_div division_near a.hi b.lo c.high-high.result c.low-other_low.result fits.1 fits.2 c.high-high.ensures c.low-other_low.ensures,
      results_read int_div division_near a.hi b.hi c.high-high.result c.high-other_high.result fits.1 fits.3 c.high-high.ensures c.high-other_high.ensures,
    ) at c.around.ensures)
