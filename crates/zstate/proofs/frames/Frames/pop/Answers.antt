use Rattle.std.proofs.Common.{reverse}
use Rattle.zstate.proofs.Packing.{popped_is, popped_packed}
use Rattle.zstate.proofs.frames.Frames.pop.Goals as goal

pub invariant_of-self : goal.invariant_of-self
invariant_of-self c = let q = c.self.inside in rw (c.truncate.ensures.items, c.len.ensures, q.words.ok.0) (popped_packed q.newest (reverse q.callers.items) q.words.items c.self.invariant c.args.count (rw (← c.self.view_is) at c.requires))

pub returns-then-count-gt0 : goal.returns-then-count-gt0
returns-then-count-gt0 c = let q = c.self.inside in rw (c.truncate.ensures.items, ← c.self.view_is, c.len.ensures, q.words.ok.0) (popped_is q.newest (reverse q.callers.items) q.words.items c.self.invariant c.args.count (rw (← c.self.view_is) at c.requires))
