use Rattle.std.proofs.Common.{◌++◌, ◌∙◌, ℕ, List, drop, length, take, sym, ap}
use Rattle.zfront.specs.ReadAhead.{line_within}
use Rattle.zfront.proofs.Lining.{line_copied, line_left}
use Rattle.zfront.proofs.ahead.Ahead.give.Goals as goal

pub returns-clause-given : goal.returns-clause-given
returns-clause-given c =
    ap (λ (l : List ℕ). l ++ drop c.line_length-count.result c.args.buffer.now)
    (line_copied _ _ _ _ c.line_length-count.ensures.count c.copy_from_slice.ensures.after ∙ ap (line_within (length c.args.buffer.now)) c.held-held.ensures)

pub returns-clause-left : goal.returns-clause-left
returns-clause-left c =
    line_left (length c.args.buffer.now) c.args.self.now _ c.self.inside.start (take c.self.inside.end c.self.inside.bytes)
    (c.line_length-count.ensures.count ∙ ap (λ (l : List ℕ). length (line_within (length c.args.buffer.now) l)) c.held-held.ensures) (sym c.self.view_is)
