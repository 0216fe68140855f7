use Rattle.std.proofs.Common.{◌≡◌}
use Rattle.zcheck.proofs.Places.{KeepsFirst}
use Rattle.zcheck.proofs.marked.examine_unmarked.Given as goal

abbrev pub invariant-loop-index : goal.invariant-loop-index
invariant-loop-index g l = record {
  kept : KeepsFirst g.V.Domain.operations l.story l.certificate (λ i. i.is_marked) l.index;
  same : l.ends ≡ l.story.memory;
}
