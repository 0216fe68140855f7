use Rattle.std.proofs.Common.{reverse}
use Rattle.zstate.proofs.Packing.{exchanged_packed, topped_is}
use Rattle.zstate.proofs.frames.Frames.set_top.Goals as goal

pub invariant_of-self : goal.invariant_of-self
invariant_of-self c = let q = c.self.inside in rw (c.push_reserved.ensures.items, c.truncate.ensures.items, c.len.ensures, q.words.ok.0) (exchanged_packed q.newest (reverse q.callers.items) q.words.items c.self.invariant 1 c.args.word (rw (← c.self.view_is) at c.requires))

pub returns : goal.returns
returns c = let q = c.self.inside in rw (c.push_reserved.ensures.items, c.truncate.ensures.items, ← c.self.view_is, c.len.ensures, q.words.ok.0) (topped_is q.newest (reverse q.callers.items) q.words.items c.self.invariant c.args.word (rw (← c.self.view_is) at c.requires))
