use Rattle.zjudge.proofs.Values.{HasFirstGlobals}
use Rattle.zjudge.proofs.memory.has_globals.Given as goal

abbrev pub invariant-loop-index : goal.invariant-loop-index
invariant-loop-index g l = HasFirstGlobals g.V.Domain.operations l.story l.certificate l.saved l.index
