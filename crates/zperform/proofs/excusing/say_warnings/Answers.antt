use Rattle.std.proofs.Common.{◌∙◌, ℕ, List, add-one, ap, sym, subst, take}
use Rattle.std.proofs.Math.Seq.{take-suc}
use Rattle.std.proofs.lemmas.List.{take_all}
use Rattle.zplayer.specs.declared.noting.Answered.{Answered}
use Rattle.zperform.specs.Devices.{seen}
use Rattle.zperform.specs.Excusing.{SaysWarnings}
use Rattle.zperform.proofs.ExcusingLemmas.{says_more}
use Rattle.zperform.proofs.excusing.say_warnings.Goals as goal

pub loop-answered-preserved : goal.loop-answered-preserved
loop-answered-preserved g c =
    let shown = seen g.E.Sink.contents g.E.Sink.failures g.E.Sink.waits in
    let firsts = c.args.firsts.now in
    let at = c.loop-answered.answered-index in
    let said = c.say_warning.ensures in
    subst (λ (l : List Answered). SaysWarnings l (shown c.args.errors.now) (shown c.say_warning.new.errors)) (sym (ap (λ (m : ℕ). take m firsts) (add-one at) ∙ take-suc firsts at _ c.loop-answered-test.true))
    (says_more (take at firsts) _ said.0 _ _ _ c.loop-answered.invariant said.1 said.2)

pub returns : goal.returns
returns g c =
    let shown = seen g.E.Sink.contents g.E.Sink.failures g.E.Sink.waits in
    subst (λ (l : List Answered). SaysWarnings l (shown c.args.errors.now) (shown c.loop-answered.errors)) (take_all c.loop-answered.answered-index c.args.firsts.now c.loop-answered-test.false) c.loop-answered.invariant
