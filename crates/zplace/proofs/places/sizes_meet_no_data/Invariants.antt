use Rattle.std.proofs.Common.{◌↔◌, ◌+◌, ◌-◌, length}
use Rattle.zplace.specs.declared.places.Places.TheVariants.{Sizes}
use Rattle.zplace.specs.Places.{MeetsNoData}
use Rattle.zplace.proofs.places.sizes_meet_no_data.Given as goal

abbrev pub invariant-loop-end : goal.invariant-loop-end
invariant-loop-end l = MeetsNoData l.memory (Sizes l.first) l.list ↔ MeetsNoData l.memory (Sizes l.size) l.at

abbrev pub decreases-loop-end : goal.decreases-loop-end
decreases-loop-end l = (length l.memory - l.at) + (length l.memory - l.size)
