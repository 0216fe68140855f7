use Rattle.std.proofs.Common.{arith}
use Rattle.zengine.proofs.Chain as by
use Rattle.zengine.proofs.Grown.{map_ok}
use Rattle.zengine.proofs.lying.find_frames.Goals as goal

pub list_frames-requires-clause-at : goal.list_frames-requires-clause-at
list_frames-requires-clause-at g c = by.at_row c.requires.stands.0 c.requires.stands.1 c.args.board.now c.requires.stands.2 _ c.requires.stands.3

pub list_frames-requires-clause-heads : goal.list_frames-requires-clause-heads
list_frames-requires-clause-heads g c = by.heads_of c.requires.stands.0 c.requires.stands.1 c.args.board.now c.requires.stands.2 _ c.requires.stands.3

pub returns : goal.returns
returns g c = map_ok c.list_frames.result (λ are. by.found c.requires.stands.0 c.requires.stands.1 c.args.board.now (omega arith) (omega arith) c.requires.stands.2 _ c.requires.stands.3 c.requires.stands.4 _ are) c.list_frames.ensures
