use Rattle.std.proofs.Common.{◌≡◌, ◌-◌, length}
use Rattle.std.specs.List.{find}
use Rattle.zobj.specs.Properties.{properties_from, has_number, after_number}
use Rattle.zobj.proofs.property.find_from.Given as goal

abbrev pub invariant-loop-property : goal.invariant-loop-property
invariant-loop-property l = record {
  sought : find (has_number l.number) (properties_from l.memory l.at) ≡ find (has_number l.number) (properties_from l.memory l.first);
  behind : after_number l.number (properties_from l.memory l.at) ≡ after_number l.number (properties_from l.memory l.first);
}

abbrev pub decreases-loop-property : goal.decreases-loop-property
decreases-loop-property l = length l.memory - l.at
