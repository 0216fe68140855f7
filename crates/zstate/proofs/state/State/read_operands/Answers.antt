use Rattle.std.proofs.Common.{arith}
use Rattle.std.proofs.lemmas.Result.{err_from_is_err_and}
use Rattle.std.proofs.lemmas.List.{drop_all, drop_more, length_push}
use Rattle.zstate.specs.State.{read_operand}
use Rattle.zstate.proofs.InTurn.{turn_starts, turn_goes_on, turn_fails, turns_end}
use Rattle.zstate.proofs.state.State.read_operands.Goals as goal

pub loop-operand-init : goal.loop-operand-init
loop-operand-init c = record { so_far = turn_starts _ _ c.new-words.ensures; long = rw c.new-words.ensures (omega arith); within = omega arith }

pub returns-in_err-word-clause-value : goal.returns-in_err-word-clause-value
returns-in_err-word-clause-value c =
    let p = err_from_is_err_and c.from_residual.result c.from_residual.ensures.1 in
    rw (p.1, p.2) (turn_fails (read_operand c.args.story.now) c.loop-operand.words.items _ _ _ _ c.in_err-word.field-0.0 _ (drop_more c.args.operands.now c.loop-operand.operand-index _ c.loop-operand-test.true) c.in_err-word.ensures.value c.loop-operand.invariant.so_far)

pub loop-operand-preserved : goal.loop-operand-preserved
loop-operand-preserved c = record {
  so_far = rw c.push.ensures.items (turn_goes_on (read_operand c.args.story.now) c.loop-operand.words.items _ _ _ _ _ _ _ (drop_more c.args.operands.now c.loop-operand.operand-index _ c.loop-operand-test.true) c.in_ok-word.ensures.value c.loop-operand.invariant.so_far);
  long = rw c.push.ensures.items (omega (arith, length_push c.loop-operand.words.items c.in_ok-word.word));
  within = c.in_ok-word.ensures.within;
}

pub returns-clause-value : goal.returns-clause-value
returns-clause-value c = turns_end (read_operand c.args.story.now) c.loop-operand.words.items _ _ _ (drop_all _ _ c.loop-operand-test.false) c.loop-operand.invariant.so_far
