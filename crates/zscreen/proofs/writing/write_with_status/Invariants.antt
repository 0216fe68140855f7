use Rattle.std.proofs.Common.{◌≡◌}
use Rattle.zfault.specs.Devices.{LeavesWaiting}
use Rattle.zscreen.proofs.Marks.{before, newest_place, shown_to}
use Rattle.zscreen.proofs.writing.write_with_status.Given as goal

abbrev pub invariant-loop-mark : goal.invariant-loop-mark
invariant-loop-mark g l =
    (l.written ≡ newest_place (before l.mark-index l.mark-items))
    × LeavesWaiting (g.W.Sink.contents l.initial.sink) (g.W.Sink.contents l.sink) (g.W.Sink.waits l.initial.sink) (g.W.Sink.waits l.sink) (shown_to l.fn.lines l.text l.written (before l.mark-index l.mark-items))
    × (g.W.Sink.failures l.sink ≡ g.W.Sink.failures l.initial.sink)
