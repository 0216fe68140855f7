use Rattle.zfault.proofs.DeviceLemmas.{on_err}
use Rattle.zfront.specs.HeadedSinks.{top_of}
use Rattle.zfront.proofs.Tops.{closing_begun, closing_whole}
use Rattle.zfront.proofs.top_line.TopLine.shut.Goals as goal

pub returns-in_err-write_whole-clause-err : goal.returns-in_err-write_whole-clause-err
returns-in_err-write_whole-clause-err g c = on_err _ (closing_begun _ _ (top_of c.args.self.now) c.if-not-self.false c.in_err-write_whole.ensures.begun)

pub returns-clause-ok : goal.returns-clause-ok
returns-clause-ok g c = closing_whole _ _ (top_of c.args.self.now) c.if-not-self.false c.in_ok-write_whole.ensures.ok
