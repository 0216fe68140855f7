use Rattle.std.proofs.Common.{rules, refl}
use Rattle.zdomain.proofs.Reading.{Short, lesser_read, greater_read}
use Rattle.zdomain.proofs.edges.join.Goals as goal

pub returns-in-Some : goal.returns-in-Some
returns-in-Some c =
    let a = c.args.a in let b = c.args.b in
    let fits : Short a.lo × Short a.hi × Short b.lo × Short b.hi = (search rules, search rules, search rules, search rules) in
    let made = rw (lesser_read c.min.result a.lo b.lo fits.0 fits.2 c.min.ensures.value, greater_read c.max.result a.hi b.hi fits.1 fits.3 c.max.ensures.value) at c.new.ensures.made in
    rw (← made, c.in-Some.is) refl

pub returns-in-None : goal.returns-in-None
returns-in-None c =
    let a = c.args.a in let b = c.args.b in
    let fits : Short a.lo × Short a.hi × Short b.lo × Short b.hi = (search rules, search rules, search rules, search rules) in
    let made = rw (lesser_read c.min.result a.lo b.lo fits.0 fits.2 c.min.ensures.value, greater_read c.max.result a.hi b.hi fits.1 fits.3 c.max.ensures.value) at c.new.ensures.made in
    rw (← made, c.in-None.is) c.all.ensures
