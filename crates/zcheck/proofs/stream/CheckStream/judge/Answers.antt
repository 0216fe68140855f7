use Rattle.std.proofs.lemmas.Result.{err_from_is_err_and}
use Rattle.zcheck.proofs.Streams.{read_same}
use Rattle.zcheck.proofs.stream.CheckStream.judge.Goals as goal

pub returns-in_err-check_any-clause-refused : goal.returns-in_err-check_any-clause-refused
returns-in_err-check_any-clause-refused g c =
    let p = err_from_is_err_and c.from_residual-in_err-check_any.result c.from_residual-in_err-check_any.ensures.1 in
    rw (p.1, p.2) (λ fed came. record { certificate = c.in_ok-certificate.certificate; read = c.in_ok-certificate.ensures.read fed (rw (← c.self.view_is) at came); refused = rw (← c.self.view_is) c.in_err-check_any.ensures.refused })

pub returns-in_err-check_any-clause-stays : goal.returns-in_err-check_any-clause-stays
returns-in_err-check_any-clause-stays g c = λ e refused. absurd (let stays = c.in_ok-certificate.ensures.stays e (rw (← c.self.view_is) at refused) in cc)

pub returns-clause-read : goal.returns-clause-read
returns-clause-read g c = λ fed came. read_same _ _ _ (c.in_ok-certificate.ensures.read fed (rw (← c.self.view_is) at came)) c.in_ok-check_any.ensures.certificate

pub returns-clause-stays : goal.returns-clause-stays
returns-clause-stays g c = λ e refused. absurd (let stays = c.in_ok-certificate.ensures.stays e (rw (← c.self.view_is) at refused) in cc)
