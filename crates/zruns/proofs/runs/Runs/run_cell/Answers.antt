use Rattle.std.proofs.Common.{◌<◌, rules, arith}
use Rattle.zruns.proofs.Pieces.{both_pieces}
use Rattle.zruns.proofs.runs.Runs.run_cell.Goals as goal

pub returns : goal.returns
returns c =
    let low : c.args.run.first < 65536 = search (rules, arith) in
    let few : c.args.run.more < 65536 = search (rules, arith) in
    both_pieces c.args.self.now c.args.width c.args.run c.from-first.result c.from.result c.min.result c.saturating_sub.result c.piece_cell-front.result c.piece_cell.result c.merge.result low few c.from-first.ensures c.from.ensures c.min.ensures c.saturating_sub.ensures c.piece_cell-front.ensures c.piece_cell.ensures c.merge.ensures
