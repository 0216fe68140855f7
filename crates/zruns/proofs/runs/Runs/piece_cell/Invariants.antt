use Rattle.std.proofs.Common.{◌≡◌, ◌-◌, ◌≤◌}
use Rattle.zruns.specs.Blocks.{piece_cell}
use Rattle.zruns.proofs.runs.Runs.piece_cell.Given as goal

abbrev pub invariant-loop-at : goal.invariant-loop-at
invariant-loop-at l = record {
  above : l.from ≤ l.at;
  below : l.at ≤ l.end;
  so_far : l.cell ≡ piece_cell l.self l.width l.from (l.at - l.from);
}

abbrev pub decreases-loop-at : goal.decreases-loop-at
decreases-loop-at l = l.end - l.at
