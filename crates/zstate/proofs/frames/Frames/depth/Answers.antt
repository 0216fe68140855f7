use Rattle.std.proofs.Common.{arith}
use Rattle.zstate.proofs.Packing.{depth_seen}
use Rattle.zstate.proofs.frames.Frames.depth.Goals as goal

pub returns : goal.returns
returns c = let q = c.self.inside in omega (arith, c.len.ensures, q.callers.ok.0, depth_seen q.newest q.callers.items q.words.items c.self.invariant c.args.self.now c.self.view_is)
