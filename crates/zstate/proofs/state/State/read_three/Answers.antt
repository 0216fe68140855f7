use Rattle.std.proofs.lemmas.Result.{err_from_is_err_and}
use Rattle.zstate.specs.State.{read_operand}
use Rattle.zstate.proofs.InTurn.{first_fails, second_fails, third_fails}
use Rattle.zstate.proofs.state.State.read_three.Goals as goal

pub returns-in_err-left-clause-value : goal.returns-in_err-left-clause-value
returns-in_err-left-clause-value c =
    let p = err_from_is_err_and c.from_residual.result c.from_residual.ensures.1 in
    rw (p.1, p.2) (first_fails (read_operand c.args.story.now) _ _ _ _ c.in_err-left.ensures.value)

pub returns-in_err-middle-clause-value : goal.returns-in_err-middle-clause-value
returns-in_err-middle-clause-value c =
    let p = err_from_is_err_and c.from_residual-in_err-middle.result c.from_residual-in_err-middle.ensures.1 in
    rw (p.1, p.2) (second_fails (read_operand c.args.story.now) _ _ _ _ _ _ _ c.in_ok-left.ensures.value c.in_err-middle.ensures.value)

pub returns-in_err-right-clause-value : goal.returns-in_err-right-clause-value
returns-in_err-right-clause-value c =
    let p = err_from_is_err_and c.from_residual-in_err-right.result c.from_residual-in_err-right.ensures.1 in
    rw (p.1, p.2) (third_fails (read_operand c.args.story.now) _ _ _ _ _ _ _ _ _ _ c.in_ok-left.ensures.value c.in_ok-middle.ensures.value c.in_err-right.ensures.value)
