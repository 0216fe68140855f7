use Rattle.std.proofs.Common.{◌≡◌, true}
use Rattle.zruns.specs.Blocks.{piece_cell}
use Rattle.zruns.proofs.piece.each_fixed.Given as goal

abbrev pub invariant-loop-more : goal.invariant-loop-more
invariant-loop-more l = (piece_cell (record { story = l.marked.story.now; ranges = l.marked.ranges.now }) l.width l.from l.more).fixed ≡ true
