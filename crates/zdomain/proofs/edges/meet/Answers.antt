use Rattle.std.proofs.Common.{rules}
use Rattle.zdomain.proofs.Reading.{Short, lesser_read, greater_read}
use Rattle.zdomain.proofs.edges.meet.Goals as goal

pub returns : goal.returns
returns c =
    let a = c.args.a in let b = c.args.b in
    let fits : Short a.lo × Short a.hi × Short b.lo × Short b.hi = (search rules, search rules, search rules, search rules) in
    rw (greater_read c.max.result a.lo b.lo fits.0 fits.2 c.max.ensures.value, lesser_read c.min.result a.hi b.hi fits.1 fits.3 c.min.ensures.value) at c.new.ensures.made
