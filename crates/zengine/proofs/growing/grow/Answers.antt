use Rattle.std.proofs.Common.{arith}
use Rattle.zengine.proofs.Steps.{low_at}
use Rattle.zengine.proofs.Grown.{map_ok, plays_grown, state_grown}
use Rattle.zengine.proofs.growing.grow.Goals as goal

pub returns-clause-ok : goal.returns-clause-ok
returns-clause-ok c = map_ok c.fill_words.result (λ m tested game rows p. (plays_grown game c.args.board.now c.fill_words.new.self m.0 (omega arith) (omega arith) m.2 c.fill_words.ensures.at tested rows p, state_grown game c.args.board.now c.fill_words.new.self m.0 (omega arith) (omega arith) m.2 c.fill_words.ensures.at (low_at game.spots c.args.board.now.at p.low))) c.fill_words.ensures.ok
