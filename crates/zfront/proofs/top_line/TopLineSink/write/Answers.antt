use Rattle.zfault.proofs.DeviceLemmas.{on_err}
use Rattle.zfront.specs.HeadedSinks.{top_of}
use Rattle.zfront.proofs.Tops.{opened_only}
use Rattle.zfront.proofs.top_line.TopLineSink.write.Goals as goal

pub returns-in_err-count-clause-err : goal.returns-in_err-count-clause-err
returns-in_err-count-clause-err g c = on_err _ (opened_only _ _ _ (top_of c.args.self.now) _ c.in_ok-open.ensures.ok c.in_err-count.ensures.bytes c.in_ok-open.ensures.opened)
