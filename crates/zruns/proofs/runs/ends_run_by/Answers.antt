use Rattle.std.proofs.Common.{◌<◌, ◌∙◌, rules, arith}
use Rattle.zarray.specs.Arrays.{span}
use Rattle.zruns.proofs.Pieces.{ends_by}
use Rattle.zruns.proofs.runs.ends_run_by.Goals as goal

pub returns : goal.returns
returns c =
    let low : c.args.run.first < 65536 = search (rules, arith) in
    let few : c.args.run.more < 65536 = search (rules, arith) in
    ends_by c.args.run c.from.result (span c.args.width) c.from-2.result c.args.end low few (c.from.ensures ∙ c.greatest.ensures) (c.from-2.ensures ∙ c.span.ensures)
