use Rattle.std.proofs.Common.{ℕ, ◌+◌, refl, subst}
use Rattle.zstory.specs.Objects.{property_table}
use Rattle.zpairs.specs.Fixed.{AreMarkedToo, is_in_frame}
use Rattle.zpairs.proofs.Marking.{none_more, one_more_marked}
use Rattle.zpairs.proofs.closed.mark_frames.Goals as goal

pub loop-below-init : goal.loop-below-init
loop-below-init c = none_more 65536 c.args.marks.now 0 (λ p below. is_in_frame c.args.story.now.memory (property_table c.args.story.now.memory (below + 1)) p) refl

pub loop-below-preserved : goal.loop-below-preserved
loop-below-preserved c =
    one_more_marked 65536 c.args.marks.now c.loop-below.marks c.mark_frame.new.marks c.loop-below.below (λ p below. is_in_frame c.args.story.now.memory (property_table c.args.story.now.memory (below + 1)) p) c.loop-below.invariant (subst (λ (table : ℕ). AreMarkedToo c.loop-below.marks c.mark_frame.new.marks (is_in_frame c.args.story.now.memory table)) c.table_of.ensures.value c.mark_frame.ensures)
