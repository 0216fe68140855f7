use Rattle.std.proofs.Common.{refl, arith}
use Rattle.zstate.specs.Packed.{AreBelow, frames_of}
use Rattle.zstate.proofs.frames.Frames.reset.Goals as goal

pub invariant_of-self : goal.invariant_of-self
unfolding AreBelow
invariant_of-self c = rw (c.clear.ensures.items, c.clear-2.ensures.items) (omega arith, tt)

pub returns : goal.returns
unfolding frames_of
returns c = rw (c.clear.ensures.items, c.clear-2.ensures.items) refl
