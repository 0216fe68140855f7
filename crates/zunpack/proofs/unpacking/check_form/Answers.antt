use Rattle.std.proofs.Common.{sym}
use Rattle.zunpack.proofs.Judged.{plain_read, refused_as}
use Rattle.zunpack.proofs.unpacking.check_form.Goals as goal

pub returns-in_default-clause-err : goal.returns-in_default-clause-err
returns-in_default-clause-err c = plain_read c.args.story.now c.args.file.now c.in_default.field-0 c.in_default.ensures.found c.in_default.ensures.no_cause

pub returns-in-Some-clause-err : goal.returns-in-Some-clause-err
returns-in-Some-clause-err c = refused_as c.args.story.now c.args.file.now c.in-Err.error c.in-Some.refusal c.in-Err.ensures.lowest_cause (sym c.in-Some.ensures)
