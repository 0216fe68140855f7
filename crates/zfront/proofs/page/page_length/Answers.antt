use Rattle.std.proofs.Common.{arith}
use Rattle.zfront.proofs.Paging.{last_line}
use Rattle.zfront.proofs.page.page_length.Goals as goal

pub returns-then-left-eq0-clause-count : goal.returns-then-left-eq0-clause-count
returns-then-left-eq0-clause-count c =
    omega (arith, c.loop-at.invariant.same, last_line c.loop-at.left c.args.piece.now c.loop-at.at c.loop-at-test.true c.if-byte-eq10.true c.loop-at.invariant.some c.if-left-eq0.true)
