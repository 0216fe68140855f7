use Rattle.std.proofs.Common.{◌≡◌, ◌<◌, ◌↔◌, ℕ, false, length}
use Rattle.std.specs.Prelude.{IsTrue, slice_index_or}
use Rattle.zruns.specs.Texts.{IsMarkedBlock}
use Rattle.zruns.proofs.texts.mark_blocks.Given as goal

abbrev pub invariant-loop-block : goal.invariant-loop-block
invariant-loop-block l = record {
  long : length l.blocks ≡ 256;
  made : (j : ℕ) → j < l.block → IsTrue (slice_index_or l.blocks j false) ↔ IsMarkedBlock l.marks l.addressing j;
}
