use Rattle.zfault.proofs.DeviceLemmas.{on_err}
use Rattle.std.proofs.Common.{None}
use Rattle.zfront.proofs.Apart.{apart_gap, apart_name, apart_right}
use Rattle.zfront.proofs.drawing.write_apart.Goals as goal

pub returns-in_err-write_whole-clause-err : goal.returns-in_err-write_whole-clause-err
returns-in_err-write_whole-clause-err g c = on_err c.from_residual.result (apart_name _ _ None None c.args.name.now c.args.gap c.args.right.now c.in_err-write_whole.ensures.begun)

pub returns-in_err-write_spaces-clause-err : goal.returns-in_err-write_spaces-clause-err
returns-in_err-write_spaces-clause-err g c = on_err _ (apart_gap _ _ _ None c.args.name.now c.args.gap c.args.right.now c.in_ok-write_whole.ensures.ok c.in_err-write_spaces.ensures.err)

pub returns-in_err-write_whole-2-clause-err : goal.returns-in_err-write_whole-2-clause-err
returns-in_err-write_whole-2-clause-err g c = on_err _ (apart_right _ _ _ _ c.args.name.now c.args.gap c.args.right.now c.in_ok-write_whole.ensures.ok c.in_ok-write_spaces.ensures.ok c.in_err-write_whole-2.ensures.begun)
