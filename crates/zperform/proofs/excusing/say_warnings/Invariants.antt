use Rattle.std.proofs.Common.{take}
use Rattle.zperform.specs.Devices.{seen}
use Rattle.zperform.specs.Excusing.{SaysWarnings}
use Rattle.zperform.proofs.excusing.say_warnings.Given as goal

-- the first faults are told of
abbrev pub invariant-loop-answered : goal.invariant-loop-answered
invariant-loop-answered g l = SaysWarnings (take l.answered-index l.firsts) (seen g.E.Sink.contents g.E.Sink.failures g.E.Sink.waits l.fn.errors) (seen g.E.Sink.contents g.E.Sink.failures g.E.Sink.waits l.errors)
