use Rattle.std.proofs.Common.{◌≡◌, ◌≤◌, ◌-◌, length}
use Rattle.zquetzal.specs.declared.limits.TheConstants.{MOST_FRAMES}
use Rattle.zquetzal.specs.View.{count_within}
use Rattle.zquetzal.proofs.Loops.{counted_on}
use Rattle.zquetzal.proofs.frames.counted.Given as goal

abbrev pub invariant-loop-rest : goal.invariant-loop-rest
invariant-loop-rest l = record {
  few : l.count ≤ MOST_FRAMES;
  so_far : counted_on l.count (count_within (MOST_FRAMES - l.count) l.rest) ≡ count_within MOST_FRAMES l.stacks;
}

abbrev pub decreases-loop-rest : goal.decreases-loop-rest
decreases-loop-rest l = length l.rest
