use Rattle.std.proofs.Common.{ℕ, List, sym, subst}
use Rattle.std.proofs.lemmas.Result.{err_from_is_err_and}
use Rattle.zcert.specs.Streaming.{Leads}
use Rattle.zcert.proofs.Pieces.{number_leads, number_refused}
use Rattle.zcert.proofs.reader.Reader.next_whole.Goals as goal

pub returns-in_err-step-clause-refused : goal.returns-in_err-step-clause-refused
returns-in_err-step-clause-refused g c =
    let p = err_from_is_err_and c.from_residual.result c.from_residual.ensures.1 in
    rw (p.1, p.2) (number_refused g.V.Spelled.format _ _ _ c.args.bytes.now c.split_at.result.0.now c.split_at.result.1.now c.in_err-step.field-0.0 _ c.split_at.ensures.front c.split_at.ensures.back c.in_err-step.ensures.refused)

pub returns-clause-led : goal.returns-clause-led
returns-clause-led g c = λ fed before.
    subst (λ (bytes : List ℕ). Leads g.V.Spelled.format c.step.new.self.stage c.step.new.self.builder fed bytes) (sym c.read_more.ensures.came)
    (number_leads g.V.Spelled.format _ _ _ _ _ c.args.bytes.now c.split_at.result.0.now c.split_at.result.1.now _ _ c.split_at.ensures.front c.split_at.ensures.back c.in_ok-step.ensures.led fed before)
