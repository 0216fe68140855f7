use Rattle.std.proofs.Common.{reverse}
use Rattle.zstate.proofs.Packing.{set_local_is, set_local_packed}
use Rattle.zstate.proofs.frames.Frames.set_local.Goals as goal

pub invariant_of-self : goal.invariant_of-self
invariant_of-self c = let q = c.self.inside in set_local_packed q.newest (reverse q.callers.items) q.words.items c.self.invariant c.args.index c.args.word (rw (← c.self.view_is) at c.requires)

pub returns : goal.returns
returns c = let q = c.self.inside in rw (← c.self.view_is) (set_local_is q.newest (reverse q.callers.items) q.words.items c.self.invariant c.args.index c.args.word (rw (← c.self.view_is) at c.requires))
