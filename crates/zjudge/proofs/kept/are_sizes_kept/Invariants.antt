use Rattle.std.proofs.Common.{◌↔◌, ◌-◌, length}
use Rattle.zplace.specs.Bytes.{IsSizePlace}
use Rattle.zjudge.specs.Memory.{AreKept}
use Rattle.zjudge.proofs.kept.are_sizes_kept.Given as goal

abbrev pub invariant-loop-end : goal.invariant-loop-end
invariant-loop-end l = AreKept l.story l.saved (λ p. IsSizePlace l.story.memory p l.first) ↔ AreKept l.story l.saved (λ p. IsSizePlace l.story.memory p l.at)

abbrev pub decreases-loop-end : goal.decreases-loop-end
decreases-loop-end l = length l.story.memory - l.at
