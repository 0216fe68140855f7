use Rattle.std.proofs.Common.{◌≡◌, ◌-◌, ◌≤◌}
use Rattle.std.specs.Prelude.{replicate}
use Rattle.std.specs.Io.KnownBytes.{Appends}
use Rattle.zfront.proofs.drawing.write_spaces.Given as goal

-- all but those that are left were written
abbrev pub invariant-loop-left : goal.invariant-loop-left
invariant-loop-left g l =
    record {
      within : l.left ≤ l.count;
      grown : Appends (g.W.Sink.contents l.initial.below) (g.W.Sink.contents l.below) (replicate (l.count - l.left) 32);
      quiet : g.W.Sink.failures l.below ≡ g.W.Sink.failures l.initial.below;
    }

abbrev pub decreases-loop-left : goal.decreases-loop-left
decreases-loop-left g l = l.left
