use Rattle.std.proofs.Common.{refl, arith}
use Rattle.zstate.specs.Packed.{AreBelow, frames_of}
use Rattle.zstate.proofs.frames.Frames.first.Goals as goal

pub invariant_of-result : goal.invariant_of-result
unfolding AreBelow
invariant_of-result c = rw c.new-2.ensures.items (omega arith, tt)

pub returns : goal.returns
unfolding frames_of
returns c = rw (c.new.ensures.items, c.new-2.ensures.items) refl
