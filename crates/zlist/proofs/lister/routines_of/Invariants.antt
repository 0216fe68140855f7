use Rattle.zlist.specs.Labels.{AreFound}
use Rattle.zlist.proofs.lister.routines_of.Given as goal

abbrev pub invariant-loop-packed : goal.invariant-loop-packed
invariant-loop-packed l = AreFound l.story l.walk l.packed l.routines.items
