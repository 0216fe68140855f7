use Rattle.std.proofs.Common.{◌≡◌, ◌∙◌, ℕ, ap, drop, subst, sym, true, false, length, refl, rules}
use Rattle.zstory.specs.LoadedStory.{static_base}
use Rattle.zstate.specs.State.{IsState, State}
use Rattle.zlenient.specs.Answer.{place_after}
use Rattle.zlenient.specs.Step.{is_within}
use Rattle.zlenient.proofs.Excused.{led_inside, led_nowhere, stands_inside}
use Rattle.zlenient.proofs.Keeping.{act_fixed, act_keeps, reached_of, result_of}
use Rattle.zlenient.proofs.excusing.do_answer.Goals as goal

pub leads_inside-requires-clause-reached : goal.leads_inside-requires-clause-reached
leads_inside-requires-clause-reached c = reached_of c.requires.state.0 _ _ c.requires.state.1

pub act-requires-clause-reached : goal.act-requires-clause-reached
act-requires-clause-reached c = reached_of c.requires.state.0 _ _ c.requires.state.1

pub returns-then-not-leads_inside-clause-done : goal.returns-then-not-leads_inside-clause-done
returns-then-not-leads_inside-clause-done c =
    let out : c.leads_inside.result ≡ false = search rules in
    let told = c.leads_inside.ensures ∙ ap (λ (n : ℕ). is_within (place_after n c.in-Ok.course c.args.state.now) (length c.args.state.now.memory)) c.length.ensures.value in
    λ limit. (led_nowhere c.args.story.now limit c.args.fault c.args.instruction.now c.args.answer.gives c.args.answer.tests c.args.before c.args.state.now c.in-Ok.course c.in-Ok.ensures.course c.in-Ok.ensures.way (c.in-Ok.ensures.value limit) c.leads_inside.result told out, refl)

pub returns-in-Ok-act-clause-done : goal.returns-in-Ok-act-clause-done
returns-in-Ok-act-clause-done c =
    let into : c.leads_inside.result ≡ true = search rules in
    let told = c.leads_inside.ensures ∙ ap (λ (n : ℕ). is_within (place_after n c.in-Ok.course c.args.state.now) (length c.args.state.now.memory)) c.length.ensures.value in
    λ limit. led_inside c.args.story.now limit c.args.fault c.args.instruction.now c.args.answer.gives c.args.answer.tests c.args.before c.args.state.now c.in-Ok.course c.in-Ok.ensures.course c.in-Ok.ensures.way (c.in-Ok.ensures.value limit) c.leads_inside.result told into c.act.new.state c.in-Ok-act.ensures.ok

pub returns-in-Ok-act-clause-inside : goal.returns-in-Ok-act-clause-inside
returns-in-Ok-act-clause-inside c =
    let into : c.leads_inside.result ≡ true = search rules in
    let told = c.leads_inside.ensures ∙ ap (λ (n : ℕ). is_within (place_after n c.in-Ok.course c.args.state.now) (length c.args.state.now.memory)) c.length.ensures.value in
    stands_inside c.args.story.now c.requires.state.0 c.args.fault c.args.instruction.now c.args.answer.gives c.args.answer.tests c.args.before c.args.state.now c.in-Ok.course c.in-Ok.ensures.course c.in-Ok.ensures.way (c.in-Ok.ensures.value c.requires.state.0) c.leads_inside.result told into c.act.new.state c.in-Ok-act.ensures.ok

pub returns-in-Ok-act-clause-keeps : goal.returns-in-Ok-act-clause-keeps
returns-in-Ok-act-clause-keeps c = λ limit is.
    subst (λ (t : State). IsState limit c.args.story.now t) (sym c.in-Ok-act.ensures.ok) (act_keeps limit c.args.story.now c.memory-memory.ensures.sound.globals_above c.args.instruction.now c.args.answer.gives c.args.answer.tests c.in-Ok.course c.args.before c.args.state.now c.are_words.ensures c.in-Ok.ensures.short c.in-Ok.ensures.course (c.in-Ok.ensures.value limit) is)

pub returns-in-Ok-act-clause-fixed : goal.returns-in-Ok-act-clause-fixed
returns-in-Ok-act-clause-fixed c =
    ap (λ (t : State). drop (static_base c.args.story.now) t.memory) c.in-Ok-act.ensures.ok
    ∙ act_fixed c.args.story.now c.memory-memory.ensures.sound.globals_within c.args.instruction.now c.args.answer.gives c.args.answer.tests c.in-Ok.course c.args.before c.args.state.now c.is_byte.ensures (result_of c.requires.state.0 _ _ c.requires.state.1) c.in-Ok.ensures.course
