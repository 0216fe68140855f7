use Rattle.std.proofs.lemmas.Result.{err_from_is_err_and}
use Rattle.zstate.specs.State.{read_operand}
use Rattle.zstate.proofs.InTurn.{first_fails}
use Rattle.zstate.proofs.state.State.read_one.Goals as goal

pub returns-in_err-word-clause-value : goal.returns-in_err-word-clause-value
returns-in_err-word-clause-value c =
    let p = err_from_is_err_and c.from_residual.result c.from_residual.ensures.1 in
    rw (p.1, p.2) (first_fails (read_operand c.args.story.now) _ _ _ c.in_err-word.field-0.0 c.in_err-word.ensures.value)
