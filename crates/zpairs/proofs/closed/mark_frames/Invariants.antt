use Rattle.std.proofs.Common.{◌+◌}
use Rattle.zstory.specs.Objects.{property_table}
use Rattle.zpairs.specs.Fixed.{AreMarkedToo, any_below, is_in_frame}
use Rattle.zpairs.proofs.closed.mark_frames.Given as goal

abbrev pub invariant-loop-below : goal.invariant-loop-below
invariant-loop-below l = AreMarkedToo l.initial.marks l.marks (λ p. any_below l.below (λ below. is_in_frame l.story.memory (property_table l.story.memory (below + 1)) p))
