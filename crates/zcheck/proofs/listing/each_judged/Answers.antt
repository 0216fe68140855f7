use Rattle.std.proofs.Common.{false, rules, arith, length, ◌≤◌, ◌∙◌, refl}
use Rattle.std.proofs.lemmas.Option.{slice_get_within}
use Rattle.zcert.specs.Listed.{seen}
use Rattle.zcheck.specs.Acceptance.{IsRecordOf}
use Rattle.zcheck.proofs.Lists.{zip_more}
use Rattle.zcheck.proofs.Places.{first_broken, first_more, passes_where}
use Rattle.zcheck.proofs.listing.each_judged.Goals as goal

pub returns-in-Err-clause-refused : goal.returns-in-Err-clause-refused
returns-in-Err-clause-refused g c =
    let listed = c.instruction-listed.ensures in
    first_broken g.V.Domain.operations c.args.story.now c.args.certificate.now g.V.Spelled.format listed.keeps c.requires.story_rules c.loop-index.index (seen c.instruction-listed.result) c.in-Err.rule listed.value listed.listed c.loop-index.invariant.kept c.in-Err.ensures.broken

pub loop-index-preserved : goal.loop-index-preserved
loop-index-preserved g c =
    let here : IsRecordOf c.args.story.now (seen c.instruction-listed.result) (record { address = c.instruction-listed.result.address; routine = c.instruction-listed.result.routine; instruction = c.in-Ok.instruction }) = record { address = refl; routine = refl; instruction = c.in-Ok.ensures.there.decodes } in
    let made = zip_more (IsRecordOf c.args.story.now) c.args.certificate.now.instructions c.loop-index.records.items c.loop-index.index (seen c.instruction-listed.result) _ c.instruction-listed.ensures.value c.loop-index.invariant.made here in
    record {
      kept = first_more g.V.Domain.operations c.args.story.now c.args.certificate.now (λ i. false) c.loop-index.index (seen c.instruction-listed.result) c.instruction-listed.ensures.value c.loop-index.invariant.kept (λ asked. c.in-Ok.ensures.kept);
      made = rw c.push_reserved.ensures.items made;
      count = search rules;
      room = search rules;
      same = c.judge_in.ensures.memory ∙ c.loop-index.invariant.same;
    }

pub returns-clause-passes : goal.returns-clause-passes
returns-clause-passes g c =
    let end : length c.args.certificate.now.instructions ≤ c.loop-index.index = search (rules, arith) in
    passes_where g.V.Domain.operations c.args.story.now c.args.certificate.now c.requires.story_rules (λ k i found. let l = slice_get_within c.args.certificate.now.instructions k i found in c.loop-index.invariant.kept k (omega (arith, l, end)) i found)
