use Rattle.std.proofs.Common.{◌≡◌, ◌≤◌, length}
use Rattle.zpairs.specs.Fixed.{is_fixed}
use Rattle.zruns.proofs.Beginnings.{AreMarkedFrom}
use Rattle.zruns.proofs.text_marks.mark_texts.Given as goal

abbrev pub invariant-loop-at : goal.invariant-loop-at
invariant-loop-at l = record {
  below : l.at ≤ length l.marked.story.now.memory;
  fixed : l.behind_fixed ≡ is_fixed (record { story = l.marked.story.now; ranges = l.marked.ranges.now }) l.at;
  so_far : AreMarkedFrom (record { story = l.marked.story.now; ranges = l.marked.ranges.now }) l.at l.marks;
}

abbrev pub decreases-loop-at : goal.decreases-loop-at
decreases-loop-at l = l.at
