use Rattle.std.proofs.Common.{◌≡◌, rules, ap, sym, ◌∙◌}
use Rattle.zruns.specs.Runs.{run_of, run_cell}
use Rattle.zruns.proofs.Pieces.{open_by_sums, open_by_run}
use Rattle.zruns.proofs.runs.Runs.are_open.Goals as goal

pub returns-in-Some : goal.returns-in-Some
returns-in-Some g c =
    let first : c.as_slice.result.now ≡ c.in-Some.few = search rules in
    let second : c.as_slice-in-Some.result.now ≡ c.in-Some.others = search rules in
    open_by_sums c.args.self.now c.args.width _ (run_of g.V.Domain.operations c.args.width c.args.arrays c.args.indices) _ c.in-Some.few c.in-Some.others c.as_slice.result.now c.as_slice-in-Some.result.now c.are_sums_open.result (sym c.members.ensures ∙ c.in-Some.is) first second c.marked.ensures c.are_sums_open.ensures

pub returns-in-None : goal.returns-in-None
returns-in-None g c =
    open_by_run c.args.self.now c.args.width (run_of g.V.Domain.operations c.args.width c.args.arrays c.args.indices) _ c.run_cell.result (sym c.members.ensures ∙ c.in-None.is) (c.run_cell.ensures ∙ ap (run_cell c.args.self.now c.args.width) c.of.ensures)
