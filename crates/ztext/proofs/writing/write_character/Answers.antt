use Rattle.ztext.proofs.Steps.{completes_byte, stops_byte}
use Rattle.ztext.proofs.writing.write_character.Goals as goal

pub returns-in_err-write_byte-clause-leads : goal.returns-in_err-write_byte-clause-leads
returns-in_err-write_byte-clause-leads g c =
    stops_byte _ _ _ _ _ _ _ _ c.in-Some.ensures c.from_residual.ensures c.in_err-write_byte.ensures.written

pub returns-clause-leads : goal.returns-clause-leads
returns-clause-leads g c =
    completes_byte _ _ _ _ _ _ _ _ _ c.in-Some.ensures c.start.ensures c.in_ok-write_byte.ensures.written
