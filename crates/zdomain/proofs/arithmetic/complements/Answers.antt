use Rattle.std.proofs.Common.{rules}
use Rattle.zdomain.proofs.Reading.{Short, turned_read}
use Rattle.zdomain.proofs.arithmetic.complements.Goals as goal

pub returns : goal.returns
returns c =
    let a = c.args.a in
    let fits : Short a.lo × Short a.hi = (search rules, search rules) in
    rw (turned_read a.hi c.high.result fits.1 c.high.ensures, turned_read a.lo c.low.result fits.0 c.low.ensures) at c.fitting.ensures
