use Rattle.ztext.proofs.Parts.{IsWritten-none}
use Rattle.ztext.proofs.writing.write_code.Goals as goal

pub returns-in-None-clause-written : goal.returns-in-None-clause-written
returns-in-None-clause-written c = rw (← c.in-None.ensures) (IsWritten-none _ _ _)
