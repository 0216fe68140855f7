use Rattle.std.proofs.Common.{◌≡◌, ◌++◌, sym, rules}
use Rattle.std.specs.Prelude.{flat_map}
use Rattle.zcert.specs.Facts.{facts_at}
use Rattle.zcert.specs.Listed.{seen}
use Rattle.zperform.specs.Showing.{answer_line, fact_line, frame_text, told_line}
use Rattle.zperform.proofs.ShowLemmas.{four_added, told_there}
use Rattle.zperform.proofs.claims.add_place.Goals as goal

pub returns : goal.returns
returns g c =
    let i = seen c.in-Some.listed in
    let there = c.instruction_there.ensures in
    let answer = c.rule_at.ensures in
    let set_text = g.V.Told.set_text in
    let old = c.args.text.now.items in
    let spelled : c.add_told.new.text.items ≡ old ++ told_line i c.instruction_there.result = search rules in
    let frame : c.add_frame.new.text.items ≡ c.add_told.new.text.items ++ frame_text set_text i = search rules in
    let facts = flat_map (fact_line set_text) (facts_at c.args.certificate.now.facts c.args.address) in
    let stated : c.add_facts.new.text.items ≡ c.add_frame.new.text.items ++ facts = search rules in
    let answered : c.add_answer.new.text.items ≡ c.add_facts.new.text.items ++ answer_line c.rule_at.result = search rules in
    (_, told_there g.V.Domain.operations set_text c.args.story.now c.args.certificate.now c.args.address i (sym c.in-Some.ensures.value) c.instruction_there.result c.rule_at.result there.none there.some answer.kept answer.broken, rw (answered, stated, frame, spelled) (four_added old (told_line i c.instruction_there.result) (frame_text set_text i) facts (answer_line c.rule_at.result)))
