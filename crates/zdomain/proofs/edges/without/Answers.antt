use Rattle.std.proofs.Common.{rules}
use Rattle.zdomain.proofs.Reading.{Short, raised_read, lowered_read}
use Rattle.zdomain.proofs.edges.without.Goals as goal

pub returns : goal.returns
returns c =
    let a = c.args.a in let z = c.args.number in
    let fits : Short a.lo × Short a.hi = (search rules, search rules) in
    rw (
      raised_read c.raised.result a.lo z fits.0 c.ranges.number (record { sfits = c.raised.type_inv }) c.raised.ensures.value,
      lowered_read c.lowered.result a.hi z fits.1 c.ranges.number (record { sfits = c.lowered.type_inv }) c.lowered.ensures.value,
    ) at c.between.ensures
