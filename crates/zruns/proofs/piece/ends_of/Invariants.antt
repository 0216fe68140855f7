use Rattle.std.proofs.Common.{◌≡◌}
use Rattle.zruns.specs.Blocks.{piece_cell}
use Rattle.zruns.proofs.piece.ends_of.Given as goal

abbrev pub invariant-loop-more : goal.invariant-loop-more
invariant-loop-more l = l.ends ≡ (piece_cell (record { story = l.marked.story.now; ranges = l.marked.ranges.now }) l.width l.from l.more).ends
