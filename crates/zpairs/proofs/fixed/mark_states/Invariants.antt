use Rattle.std.proofs.Common.{◌+◌}
use Rattle.zstory.specs.Objects.{object_place}
use Rattle.zpairs.specs.Fixed.{AreMarkedToo, any_below, is_within}
use Rattle.zpairs.proofs.fixed.mark_states.Given as goal

abbrev pub invariant-loop-below : goal.invariant-loop-below
invariant-loop-below l = AreMarkedToo l.initial.marks l.marks (λ p. any_below l.below (λ below. is_within (object_place l.story.memory (below + 1)) 7 p))
