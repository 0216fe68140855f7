use Rattle.zcheck.proofs.Globals.{HasFirstGlobals}
use Rattle.zcheck.proofs.tables.has_globals.Given as goal

abbrev pub invariant-loop-index : goal.invariant-loop-index
invariant-loop-index g l = HasFirstGlobals g.V.Domain.operations l.story l.certificate l.index
