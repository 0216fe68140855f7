use Rattle.std.proofs.Common.{◌≡◌}
use Rattle.zlist.specs.Labels.{AreListed}
use Rattle.zlist.proofs.lister.records_of.Given as goal

abbrev pub invariant-loop-address : goal.invariant-loop-address
invariant-loop-address l = record {
  listed : AreListed l.story l.numbers l.address l.records.items;
  same : l.ends ≡ l.story.memory;
}
