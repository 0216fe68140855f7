use Rattle.std.proofs.Common.{subst, sym}
use Rattle.zjudge.specs.Memory.{AreGlobals}
use Rattle.zjudge.proofs.Facts.{are_globals, globals_at_place}
use Rattle.zjudge.proofs.memory.have_facts.Goals as goal

pub hold_in-requires-clause-few : goal.hold_in-requires-clause-few
hold_in-requires-clause-few g c = subst AreGlobals (sym c.facts_at.ensures.value) (globals_at_place c.args.address _ (are_globals g.V.Spelled.format _ c.facts_at.ensures.keeps.facts))

pub returns : goal.returns
returns g c = rw c.facts_at.ensures.value at c.hold_in.ensures
