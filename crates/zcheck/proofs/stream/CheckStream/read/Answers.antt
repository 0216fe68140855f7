use Rattle.zcheck.proofs.stream.CheckStream.read.Goals as goal

pub returns-clause-read : goal.returns-clause-read
returns-clause-read g c = λ fed came. c.in_ok-finish.ensures.read fed (rw (← c.self.view_is) at came)

pub returns-clause-stays : goal.returns-clause-stays
returns-clause-stays g c = λ e refused. absurd (let stays = c.in_ok-finish.ensures.stays e (rw (← c.self.view_is) at refused) in cc)
