use Rattle.std.proofs.Common.{ℕ, ◌↔◌, ◌-◌, length}
use Rattle.zplace.specs.Bytes.{IsChanging, IsSizePlace}
use Rattle.zplace.proofs.property_tables.are_sizes_still.Given as goal

abbrev pub invariant-loop-end : goal.invariant-loop-end
invariant-loop-end l = ((p : ℕ) → IsSizePlace l.story.memory p l.first → IsChanging l.story p → ⊥) ↔ ((p : ℕ) → IsSizePlace l.story.memory p l.at → IsChanging l.story p → ⊥)

abbrev pub decreases-loop-end : goal.decreases-loop-end
decreases-loop-end l = length l.story.memory - l.at
