use Rattle.std.proofs.Common.{length, ◌-◌, ◌≡◌, ◌≤◌, take}
use Rattle.std.specs.Io.KnownBytes.{Appends}
use Rattle.zfault.specs.Devices.{waits_after}
use Rattle.zfront.proofs.giving.write_some.Given as goal

-- the first `at` bytes were taken, and no write has failed
abbrev pub invariant-loop-at : goal.invariant-loop-at
invariant-loop-at g l =
    record {
      within : l.at ≤ length l.bytes;
      taken : Appends (g.W.Sink.contents l.initial.sink) (g.W.Sink.contents l.sink) (take l.at l.bytes);
      waits : g.W.Sink.waits l.sink ≡ waits_after (g.W.Sink.waits l.initial.sink) (take l.at l.bytes);
      quiet : g.W.Sink.failures l.sink ≡ g.W.Sink.failures l.initial.sink;
    }

abbrev pub decreases-loop-at : goal.decreases-loop-at
decreases-loop-at g l = length l.bytes - l.at
