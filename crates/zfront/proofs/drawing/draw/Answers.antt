use Rattle.std.proofs.Common.{◌++◌}
use Rattle.zfault.proofs.DeviceLemmas.{AppendsBeginning-after, AppendsBeginning-append, on_err}
use Rattle.zfront.specs.Headings.{heading_line, line_begun, line_ended}
use Rattle.zfront.proofs.drawing.draw.Goals as goal

pub returns-in_err-write_whole-clause-err : goal.returns-in_err-write_whole-clause-err
returns-in_err-write_whole-clause-err g c = on_err _ (AppendsBeginning-append _ _ line_begun ((heading_line c.args.title.now.name c.args.title.now.right c.args.width) ++ line_ended) c.in_err-write_whole.ensures.begun)

pub returns-in_err-write_line-clause-err : goal.returns-in_err-write_line-clause-err
returns-in_err-write_line-clause-err g c = on_err _ (AppendsBeginning-after _ _ _ line_begun ((heading_line c.args.title.now.name c.args.title.now.right c.args.width) ++ line_ended) c.in_ok-write_whole.ensures.ok (AppendsBeginning-append _ _ (heading_line c.args.title.now.name c.args.title.now.right c.args.width) line_ended c.in_err-write_line.ensures.err))

pub returns-in_err-write_whole-2-clause-err : goal.returns-in_err-write_whole-2-clause-err
returns-in_err-write_whole-2-clause-err g c = on_err _ (AppendsBeginning-after _ _ _ line_begun ((heading_line c.args.title.now.name c.args.title.now.right c.args.width) ++ line_ended) c.in_ok-write_whole.ensures.ok (AppendsBeginning-after _ _ _ (heading_line c.args.title.now.name c.args.title.now.right c.args.width) line_ended c.in_ok-write_line.ensures.ok c.in_err-write_whole-2.ensures.begun))
