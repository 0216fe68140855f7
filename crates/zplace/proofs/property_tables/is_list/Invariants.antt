use Rattle.std.proofs.Common.{◌↔◌, ◌-◌, ◌≤◌}
use Rattle.zplace.specs.Tables.{IsList}
use Rattle.zplace.proofs.property_tables.is_list.Given as goal

abbrev pub invariant-loop-at : goal.invariant-loop-at
invariant-loop-at l = record {
  same : IsList l.memory l.end 32 l.first ↔ IsList l.memory l.end l.bound l.at;
  few : l.bound ≤ 32;
}

abbrev pub decreases-loop-at : goal.decreases-loop-at
decreases-loop-at l = l.end - l.at
