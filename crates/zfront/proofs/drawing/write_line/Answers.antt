use Rattle.std.proofs.Common.{◌++◌, ◌∷◌, []}
use Rattle.zfault.proofs.DeviceLemmas.{AppendsBeginning-after, AppendsBeginning-append, on_err}
use Rattle.zfront.specs.Headings.{both_shown}
use Rattle.zfront.proofs.drawing.write_line.Goals as goal

pub returns-in_err-write_whole-clause-err : goal.returns-in_err-write_whole-clause-err
returns-in_err-write_whole-clause-err g c = on_err _ (AppendsBeginning-append _ _ (32 ∷ []) ((both_shown c.args.title.now.name c.args.title.now.right c.args.width) ++ (32 ∷ [])) c.in_err-write_whole.ensures.begun)

pub returns-in_err-write_sides-clause-err : goal.returns-in_err-write_sides-clause-err
returns-in_err-write_sides-clause-err g c = on_err _ (AppendsBeginning-after _ _ _ (32 ∷ []) ((both_shown c.args.title.now.name c.args.title.now.right c.args.width) ++ (32 ∷ [])) c.in_ok-write_whole.ensures.ok (AppendsBeginning-append _ _ (both_shown c.args.title.now.name c.args.title.now.right c.args.width) (32 ∷ []) c.in_err-write_sides.ensures.err))

pub returns-in_err-write_whole-2-clause-err : goal.returns-in_err-write_whole-2-clause-err
returns-in_err-write_whole-2-clause-err g c = on_err _ (AppendsBeginning-after _ _ _ (32 ∷ []) ((both_shown c.args.title.now.name c.args.title.now.right c.args.width) ++ (32 ∷ [])) c.in_ok-write_whole.ensures.ok (AppendsBeginning-after _ _ _ (both_shown c.args.title.now.name c.args.title.now.right c.args.width) (32 ∷ []) c.in_ok-write_sides.ensures.ok c.in_err-write_whole-2.ensures.begun))
