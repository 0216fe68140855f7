use Rattle.zfault.proofs.DeviceLemmas.{on_err}
use Rattle.zfront.specs.HeadedSinks.{top_of}
use Rattle.zfront.proofs.Tops.{drawn_only, drawn_short}
use Rattle.zfront.proofs.top_line.TopLineSink.flush.Goals as goal

pub returns-in_err-draw-clause-err : goal.returns-in_err-draw-clause-err
returns-in_err-draw-clause-err g c = on_err _ (drawn_short _ _ _ (top_of c.args.self.now) (top_of c.open.new.self) _ c.in_ok-open.ensures.ok c.in_ok-open.ensures.opened c.in_err-draw.ensures.same c.in_err-draw.ensures.err)

pub returns-in_err-flush-clause-err : goal.returns-in_err-flush-clause-err
returns-in_err-flush-clause-err g c = on_err _ (drawn_only _ _ _ _ (top_of c.args.self.now) (top_of c.open.new.self) _ c.in_ok-open.ensures.ok c.in_ok-open.ensures.opened c.in_ok-draw.ensures.same c.in_ok-draw.ensures.ok c.in_err-flush.ensures.bytes)
