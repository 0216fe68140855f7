use Rattle.std.proofs.Common.{rules}
use Rattle.std.specs.Int.{w16}
use Rattle.std.proofs.lemmas.Int.{to_z-of_z}
use Rattle.zdomain.proofs.Reading.{Short, lesser_read, greater_read}
use Rattle.zdomain.proofs.edges.not_below.Goals as goal

pub returns : goal.returns
returns c =
    let a = c.args.a in let b = c.args.b in
    let fits : Short a.lo × Short a.hi × Short b.lo × Short b.hi = (search rules, search rules, search rules, search rules) in
    let first = rw (greater_read c.max.result a.lo b.lo fits.0 fits.2 c.max.ensures.value, to_z-of_z w16 a.hi fits.1) at c.new.ensures.made in
    let second = rw (to_z-of_z w16 b.lo fits.2, lesser_read c.min.result b.hi a.hi fits.3 fits.1 c.min.ensures.value) at c.new-2.ensures.made in
    rw (first, second) at c.both.ensures
