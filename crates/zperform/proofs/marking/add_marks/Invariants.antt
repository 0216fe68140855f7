use Rattle.std.proofs.Common.{◌≡◌}
use Rattle.zperform.proofs.LineLemmas.{TellsFirst}
use Rattle.zperform.proofs.marking.add_marks.Given as goal

abbrev pub invariant-loop-index : goal.invariant-loop-index
invariant-loop-index g l = record {
  told : TellsFirst g.V.Domain.operations l.story l.certificate l.json l.marked_alone l.index l.fn.text.items l.text.items;
  same : l.ends ≡ l.story.memory;
}
