use Rattle.std.proofs.Common.{◌≡◌, ℕ, rules, ap, sym, ◌∙◌}
use Rattle.std.specs.Prelude.{min}
use Rattle.zstory.specs.Bytes.{readable_end}
use Rattle.zruns.specs.Runs.{run_of}
use Rattle.zruns.proofs.Pieces.{end_by_sums}
use Rattle.zruns.proofs.runs.are_readable.Goals as goal

pub returns-in-Some : goal.returns-in-Some
returns-in-Some g c =
    let first : c.as_slice.result.now ≡ c.in-Some.few = search rules in
    let second : c.as_slice-in-Some.result.now ≡ c.in-Some.others = search rules in
    let end = c.min-end.ensures ∙ ap (λ (n : ℕ). min n 65536) c.length.ensures.value in
    end_by_sums c.args.width (readable_end c.args.story.now.memory) c.last_place-last.result (run_of g.V.Domain.operations c.args.width c.args.arrays c.args.indices) _ c.in-Some.few c.in-Some.others c.as_slice.result.now c.as_slice-in-Some.result.now c.begin_sums_by.result (sym c.members.ensures ∙ c.in-Some.is) first second (c.last_place-last.ensures ∙ end) c.begin_sums_by.ensures
