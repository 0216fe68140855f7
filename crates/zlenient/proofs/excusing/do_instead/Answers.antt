use Rattle.std.proofs.Common.{refl, sym, ap, subst, ℕ, ◌∙◌}
use Rattle.zcode.specs.declared.opcode.Opcode.{Opcode}
use Rattle.zcode.specs.Operation.{operation_of}
use Rattle.zstate.specs.State.{popped}
use Rattle.zlenient.specs.Answer.{IsExcused, done_instead, effect_with}
use Rattle.zlenient.proofs.Excused.{excused_none, excused_some, excused_unread}
use Rattle.zlenient.proofs.excusing.do_instead.Goals as goal

pub returns-in-Err-clause-done : goal.returns-in-Err-clause-done
returns-in-Err-clause-done c = λ m i own fetched. (excused_unread m c.args.fault c.args.state.now c.args.story.now own i c.args.instruction.now fetched c.requires.is _ (c.as_slice.ensures.value ∙ c.inputs.ensures.value) c.in-Err.halt c.in-Err.ensures.value, refl)

pub returns-in-None-clause-done : goal.returns-in-None-clause-done
returns-in-None-clause-done c = λ m i own fetched. (excused_none m c.args.fault c.args.state.now c.args.story.now own i c.args.instruction.now fetched c.requires.is _ (c.as_slice.ensures.value ∙ c.inputs.ensures.value) _ c.in-Ok.ensures.value c.operation-operation.result (c.operation-operation.ensures ∙ ap (λ (o : Opcode). operation_of o) c.opcode.ensures) c.words.result.now c.words.ensures (c.in-None.ensures (popped c.in-Ok.values.popped c.args.state.now) (sym c.memory.ensures)), refl)

pub returns-in-Some-clause-done : goal.returns-in-Some-clause-done
returns-in-Some-clause-done c = λ m i own fetched.
    excused_some m c.args.fault c.args.state.now c.args.story.now own i c.args.instruction.now fetched c.requires.is _ (c.as_slice.ensures.value ∙ c.inputs.ensures.value) _ c.in-Ok.ensures.value c.operation-operation.result (c.operation-operation.ensures ∙ ap (λ (o : Opcode). operation_of o) c.opcode.ensures) c.words.result.now c.words.ensures (effect_with c.in-Some.answer.gives c.in-Some.answer.tests) (c.in-Some.ensures (popped c.in-Ok.values.popped c.args.state.now) (sym c.memory.ensures)) c.do_answer.result c.do_answer.new.state
    (subst (λ (n : ℕ). IsExcused (done_instead c.args.story.now m.limit c.args.fault c.args.instruction.now (effect_with c.in-Some.answer.gives c.in-Some.answer.tests) (popped n c.args.state.now) c.args.state.now) c.do_answer.result c.args.state.now c.do_answer.new.state) c.popped.ensures (c.do_answer.ensures.done m.limit))

pub returns-in-Some-clause-keeps : goal.returns-in-Some-clause-keeps
returns-in-Some-clause-keeps c = c.do_answer.ensures.keeps

pub returns-in-Some-clause-fixed : goal.returns-in-Some-clause-fixed
returns-in-Some-clause-fixed c = c.do_answer.ensures.fixed

pub returns-in-Some-clause-inside : goal.returns-in-Some-clause-inside
returns-in-Some-clause-inside c = c.do_answer.ensures.inside
