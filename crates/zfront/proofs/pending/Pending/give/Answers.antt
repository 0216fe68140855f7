use Rattle.std.proofs.Common.{◌+◌, ap, length, length-drop, arith}
use Rattle.zfront.proofs.pending.Pending.give.Goals as goal

pub returns-then-count-left-clause-err : goal.returns-then-count-left-clause-err
returns-then-count-left-clause-err g c =
    λ none. omega (arith, ap length none, length-drop (c.self.inside.given + c.write_some-count.result) c.self.inside.decided.items, c.if-count-left.true, c.len.ensures, c.self.inside.decided.ok.0)
