use Rattle.zfault.proofs.DeviceLemmas.{AppendsBeginning-after, AppendsBeginning-append, AppendsBeginning-whole, on_err}
use Rattle.std.proofs.KnownBytes.{Appends-kept}
use Rattle.zfront.specs.Pages.{erased, more}
use Rattle.zfront.proofs.keys.stop.Goals as goal

pub returns-in_err-write_whole-clause-err : goal.returns-in_err-write_whole-clause-err
returns-in_err-write_whole-clause-err g c = on_err _ (AppendsBeginning-append _ _ more erased c.in_err-write_whole.ensures.begun)

pub returns-in_err-flush-clause-err : goal.returns-in_err-flush-clause-err
returns-in_err-flush-clause-err g c = on_err _ (AppendsBeginning-append _ _ more erased (AppendsBeginning-whole _ _ _ more c.in_ok-write_whole.ensures.ok c.in_err-flush.ensures.bytes))

pub returns-in_err-write_whole-2-clause-err : goal.returns-in_err-write_whole-2-clause-err
returns-in_err-write_whole-2-clause-err g c = on_err _ (AppendsBeginning-after _ _ _ more erased (Appends-kept _ _ _ more c.in_ok-write_whole.ensures.ok c.in_ok-flush.ensures.bytes) c.in_err-write_whole-2.ensures.begun)
