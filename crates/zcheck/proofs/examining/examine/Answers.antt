use Rattle.std.proofs.Common.{false, rules, arith, length, ◌≤◌, ◌∙◌}
use Rattle.std.proofs.lemmas.Option.{slice_get_within}
use Rattle.zcert.specs.Listed.{seen}
use Rattle.zcheck.proofs.Places.{first_broken, first_more, passes_where}
use Rattle.zcheck.proofs.examining.examine.Goals as goal

pub returns-in-Err : goal.returns-in-Err
returns-in-Err g c =
    let listed = c.instruction-listed.ensures in
    first_broken g.V.Domain.operations c.args.story.now c.args.certificate.now g.V.Spelled.format listed.keeps c.in_default.ensures c.loop-index.index (seen c.instruction-listed.result) c.in-Err.rule listed.value listed.listed c.loop-index.invariant.kept c.in-Err.ensures.broken

pub loop-index-preserved : goal.loop-index-preserved
loop-index-preserved g c = record {
  kept = first_more g.V.Domain.operations c.args.story.now c.args.certificate.now (λ i. false) c.loop-index.index (seen c.instruction-listed.result) c.instruction-listed.ensures.value c.loop-index.invariant.kept (λ asked. c.in_default-judge_in.ensures.kept);
  same = c.judge_in.ensures.memory ∙ c.loop-index.invariant.same;
}

pub returns : goal.returns
returns g c =
    let end : length c.args.certificate.now.instructions ≤ c.loop-index.index = search (rules, arith) in
    passes_where g.V.Domain.operations c.args.story.now c.args.certificate.now c.in_default.ensures (λ k i found. let l = slice_get_within c.args.certificate.now.instructions k i found in c.loop-index.invariant.kept k (omega (arith, l, end)) i found)
