use Rattle.std.proofs.Common.{ℕ, ◌<◌}
use Rattle.std.specs.Prelude.{slice_index_or}
use Rattle.zcert.specs.declared.parts.Range.{Range}
use Rattle.zjudge.specs.Parts.{IsRangeKept}
use Rattle.zjudge.proofs.kept.are_ranges_kept.Given as goal

abbrev pub invariant-loop-index : goal.invariant-loop-index
invariant-loop-index l = (k : ℕ) → k < l.index → (d : Range) → IsRangeKept l.story l.saved (slice_index_or l.ranges k d)
