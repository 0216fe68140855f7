use Rattle.zfault.proofs.DeviceLemmas.{on_err}
use Rattle.zfront.specs.HeadedSinks.{top_of}
use Rattle.zfront.proofs.Tops.{closed_only}
use Rattle.zfront.proofs.top_line.TopLine.close.Goals as goal

pub returns-in_err-flush-clause-err : goal.returns-in_err-flush-clause-err
returns-in_err-flush-clause-err g c = on_err _ (closed_only _ _ _ (top_of c.args.self.now) _ c.in_ok-shut.ensures.ok c.in_err-flush.ensures.bytes c.in_ok-shut.ensures.closed)
