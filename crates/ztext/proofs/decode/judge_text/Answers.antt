use Rattle.std.proofs.Common.{sym}
use Rattle.ztext.proofs.Outcomes.{error_of-at, judged_err, judged_ok, never_refused, output_at-none}
use Rattle.ztext.proofs.decode.judge_text.Goals as goal

pub returns-in_default-clause-err : goal.returns-in_default-clause-err
returns-in_default-clause-err c = output_at-none c.args.memory.now c.args.at (sym c.in_default.ensures)

pub returns-in-OutOfMemory-clause-ok : goal.returns-in-OutOfMemory-clause-ok
returns-in-OutOfMemory-clause-ok c =
    judged_ok _ _ (never_refused c.args.memory.now c.args.at) c.in-OutOfMemory.is (error_of-at c.args.memory.now c.args.at _ _ _ c.in-Some.ensures c.new.ensures c.error_of_text.ensures)

pub returns-in_default-error_of_text : goal.returns-in_default-error_of_text
returns-in_default-error_of_text c = record {
  ok = tt;
  err = judged_err _ _ c.in_default-error_of_text.not-OutOfMemory (error_of-at c.args.memory.now c.args.at _ _ _ c.in-Some.ensures c.new.ensures c.error_of_text.ensures);
}
