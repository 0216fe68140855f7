use Rattle.ztext.proofs.Steps.{IsWritten-outside}
use Rattle.ztext.proofs.writing.InMemoryUses.write.Goals as goal

pub returns-in_err-bytes-clause-written : goal.returns-in_err-bytes-clause-written
returns-in_err-bytes-clause-written c =
    IsWritten-outside c.args.self.now.memory.now c.args.number _ _ _ c.in_err-bytes.ensures c.from_residual.ensures
