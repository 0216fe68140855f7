use Rattle.ztext.proofs.Steps.{begins, completes, stops}
use Rattle.ztext.proofs.writing.write_step.Goals as goal

pub returns-in_err-write_piece-in-Completes-clause-leads : goal.returns-in_err-write_piece-in-Completes-clause-leads
returns-in_err-write_piece-in-Completes-clause-leads g c =
    stops _ _ _ _ _ _ _ _ _ c.begun.ensures.begun c.from_residual.ensures c.in-Completes.ensures.pieces c.in_err-write_piece-in-Completes.ensures.written

pub returns-in-Begins-clause-leads : goal.returns-in-Begins-clause-leads
returns-in-Begins-clause-leads g c =
    begins _ _ _ _ _ _ _ _ c.begun.ensures.begun c.new.ensures c.in-Begins.ensures.pieces

pub returns-in_ok-write_piece-in-Completes-clause-leads : goal.returns-in_ok-write_piece-in-Completes-clause-leads
returns-in_ok-write_piece-in-Completes-clause-leads g c =
    completes _ _ _ _ _ _ _ _ _ _ c.begun.ensures.begun c.start.ensures c.in-Completes.ensures.pieces c.in_ok-write_piece-in-Completes.ensures.written
