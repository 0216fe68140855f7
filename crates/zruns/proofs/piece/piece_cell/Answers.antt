use Rattle.zruns.specs.Blocks.{piece_cell}
use Rattle.zruns.proofs.Pieces.{made_of}
use Rattle.zruns.proofs.piece.piece_cell.Goals as goal

pub returns : goal.returns
returns c = made_of (piece_cell (record { story = c.args.marked.story.now; ranges = c.args.marked.ranges.now }) c.args.width c.args.from c.args.size) c.each_open.result c.each_fixed.result c.ends_of.result c.each_open.ensures c.each_fixed.ensures c.ends_of.ensures
