use Rattle.std.proofs.Common.{◌≡◌}
use Rattle.zfind.proofs.Marked.{AreMarksTo}
use Rattle.zfind.proofs.marking.marks_of.Given as goal

abbrev pub invariant-loop-index : goal.invariant-loop-index
invariant-loop-index l = record {
  made : AreMarksTo l.story l.certificate l.index l.marks.items;
  same : l.ends ≡ l.story.memory;
}
