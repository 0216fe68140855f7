use Rattle.std.proofs.Common.{reverse}
use Rattle.zstate.proofs.Packing.{exchanged_is, exchanged_packed, pushed_packed}
use Rattle.zstate.proofs.frames.Frames.exchange.Goals as goal

pub invariant_of-self-then-count-eq0 : goal.invariant_of-self-then-count-eq0
invariant_of-self-then-count-eq0 c = let q = c.self.inside in rw c.in_ok-push.ensures.items (pushed_packed q.newest (reverse q.callers.items) q.words.items c.self.invariant c.args.word)

pub invariant_of-self-2 : goal.invariant_of-self-2
invariant_of-self-2 c = let q = c.self.inside in rw (c.push_reserved.ensures.items, c.truncate.ensures.items, c.len.ensures, q.words.ok.0) (exchanged_packed q.newest (reverse q.callers.items) q.words.items c.self.invariant c.args.count c.args.word (rw (← c.self.view_is) at c.requires))

pub returns-clause-ok : goal.returns-clause-ok
returns-clause-ok c = let q = c.self.inside in rw (c.push_reserved.ensures.items, c.truncate.ensures.items, ← c.self.view_is, c.len.ensures, q.words.ok.0) (exchanged_is q.newest (reverse q.callers.items) q.words.items c.self.invariant c.args.count c.args.word (rw (← c.self.view_is) at c.requires))
