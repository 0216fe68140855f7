use Rattle.ztext.proofs.Steps.{IsWritten-nested}
use Rattle.ztext.proofs.writing.NestedUses.write.Goals as goal

pub returns-clause-written : goal.returns-clause-written
returns-clause-written c = IsWritten-nested _ _ c.args._number
