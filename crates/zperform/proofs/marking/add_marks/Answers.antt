use Rattle.std.proofs.Common.{◌≡◌, ◌++◌, ◌∙◌, ◌≤◌, true, false, length, refl, sym, subst, List, rules, arith}
use Rattle.std.proofs.lemmas.List.{take_all}
use Rattle.std.specs.List.{filter}
use Rattle.zcert.specs.Certificate.{Instruction}
use Rattle.zcert.specs.Listed.{seen}
use Rattle.zperform.specs.Marking.{AreLinesOf, is_chosen, mark_text}
use Rattle.zperform.proofs.LineLemmas.{chosen_if, left_if, tells_more, tells_none, tells_same}
use Rattle.zperform.proofs.ShowLemmas.{spelled_so}
use Rattle.zperform.proofs.marking.add_marks.Goals as goal

pub loop-index-preserved : goal.loop-index-preserved
loop-index-preserved g c =
    let o = g.V.Domain.operations in
    let story = c.args.story.now in
    let certificate = c.args.certificate.now in
    let i = seen c.instruction-listed.result in
    let there = c.instruction_there-there.ensures in
    let more = mark_text c.args.json i c.instruction_there-there.result c.answer_of-answer.result in
    let added : c.add_one.new.text.items ≡ c.loop-index.text.items ++ more = search rules in
    let kept : c.is_left_out.result ≡ false = cc in
    record {
      told = tells_more o story certificate c.args.json c.args.marked_alone c.loop-index.index i c.instruction-listed.ensures.value c.args.text.now.items c.loop-index.text.items c.loop-index.invariant.told c.add_one.new.text.items more
          (chosen_if i.is_marked c.args.marked_alone (sym c.is_left_out.ensures ∙ kept))
          (record { spelled = c.instruction_there-there.result; there = spelled_so o story certificate i.address c.instruction_there-there.result there.none there.some; answer = c.answer_of-answer.result; judged = c.answer_of-answer.ensures.answer; lines = refl }) added;
      same = c.answer_of-answer.ensures.memory ∙ c.loop-index.invariant.same;
    }

pub loop-index-preserved-then-is_left_out : goal.loop-index-preserved-then-is_left_out
loop-index-preserved-then-is_left_out g c =
    let i = seen c.instruction-listed.result in
    let left : c.is_left_out.result ≡ true = cc in
    record {
      told = tells_same g.V.Domain.operations c.args.story.now c.args.certificate.now c.args.json c.args.marked_alone c.loop-index.index i c.instruction-listed.ensures.value c.args.text.now.items c.loop-index.text.items c.loop-index.invariant.told
          (left_if i.is_marked c.args.marked_alone (sym c.is_left_out.ensures ∙ left));
      same = c.loop-index.invariant.same;
    }

pub loop-index-init : goal.loop-index-init
loop-index-init g c = record {
  told = tells_none g.V.Domain.operations c.args.story.now c.args.certificate.now c.args.json c.args.marked_alone c.args.text.now.items;
  same = search rules;
}

pub returns : goal.returns
returns g c =
    let end : length c.args.certificate.now.instructions ≤ c.loop-index.index = search (rules, arith) in
    let told = c.loop-index.invariant.told in
    (told.0, subst (λ (is : List (Instruction _)). AreLinesOf g.V.Domain.operations c.args.story.now c.args.certificate.now c.args.json (filter (is_chosen c.args.marked_alone) is) told.0) (take_all c.loop-index.index c.args.certificate.now.instructions end) told.1, told.2)
