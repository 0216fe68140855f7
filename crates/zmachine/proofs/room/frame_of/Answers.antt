use Rattle.std.proofs.Common.{arith, ap}
use Rattle.zengine.specs.declared.row.Spot.{Spot}
use Rattle.zmachine.proofs.Alike.{few_of}
use Rattle.zmachine.proofs.room.frame_of.Goals as goal

pub returns-clause-low : goal.returns-clause-low
returns-clause-low g c =
    let few = few_of (g.R.Rows.game c.args.rows.now) (g.R.Rows.all c.args.rows.now) c.args.board.now (c.plays.ensures c.requires) in
    let count = ap (λ (s : Spot). s.count) c.spot-spot.ensures in
    let height = ap (λ (s : Spot). s.height) c.spot-spot.ensures in
    let a = c.from.ensures in
    let b = c.from-2.ensures in
    omega (arith, few, count, height, a, b)
