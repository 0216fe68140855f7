use Rattle.std.proofs.Common.{Option, ap, ◌∙◌}
use Rattle.zcode.specs.declared.instr.Branch.{Branch}
use Rattle.zstate.specs.Step.{course}
use Rattle.std.proofs.lemmas.Result.{err_from_is_err_and}
use Rattle.zlenient.specs.Answer.{effect_with}
use Rattle.zlenient.proofs.Settled.{settle_admits, settle_pauses}
use Rattle.zlenient.proofs.settling.settle.Goals as goal

pub returns-in_err-admit-clause-value : goal.returns-in_err-admit-clause-value
returns-in_err-admit-clause-value c =
    let p = err_from_is_err_and c.from_residual.result c.from_residual.ensures.1 in
    λ limit. rw (p.1, p.2) (settle_admits limit c.args.instruction.now (effect_with c.args.gives c.args.tests) _ _ _ _ _ c.target-target.ensures c.branch-instruction.ensures.value (c.course_of-course.ensures.value c.args.gives) (c.in_err-admit.ensures.value c.args.before))

pub returns-in_err-pause-clause-value : goal.returns-in_err-pause-clause-value
returns-in_err-pause-clause-value c =
    let p = err_from_is_err_and c.from_residual-in_err-pause.result c.from_residual-in_err-pause.ensures.1 in
    λ limit. rw (p.1, p.2) (settle_pauses limit c.args.instruction.now (effect_with c.args.gives c.args.tests) _ _ _ _ _ c.target-target.ensures c.branch-instruction.ensures.value (c.course_of-course.ensures.value c.args.gives) (c.in_ok-admit.ensures.value c.args.before) (c.in_err-pause.ensures limit))

pub returns-clause-value : goal.returns-clause-value
returns-clause-value c = λ limit.
    settle_pauses limit c.args.instruction.now (effect_with c.args.gives c.args.tests) _ _ _ _ _ c.target-target.ensures c.branch-instruction.ensures.value (c.course_of-course.ensures.value c.args.gives) (c.in_ok-admit.ensures.value c.args.before) (c.in_ok-pause.ensures limit)

pub returns-clause-course : goal.returns-clause-course
returns-clause-course c = c.course_of-course.ensures.value c.args.gives ∙ ap (λ (b : Option Branch). course (effect_with c.args.gives c.args.tests) b) c.branch-instruction.ensures.value
