use Rattle.std.proofs.Common.{◌↔◌, ◌-◌, length}
use Rattle.zplace.specs.declared.places.Places.TheVariants.{Run}
use Rattle.zplace.specs.Places.{MeetsNoData}
use Rattle.zplace.proofs.places.run_meets_no_data.Given as goal

abbrev pub invariant-loop-end : goal.invariant-loop-end
invariant-loop-end l = MeetsNoData l.memory (Run l.from l.size) l.list ↔ MeetsNoData l.memory (Run l.from l.size) l.at

abbrev pub decreases-loop-end : goal.decreases-loop-end
decreases-loop-end l = length l.memory - l.at
