use Rattle.ztext.proofs.Parts.{IsWritten-push}
use Rattle.ztext.proofs.writing.write_byte.Goals as goal

pub returns-clause-written : goal.returns-clause-written
returns-clause-written c =
    rw c.ok.ensures.value (IsWritten-push _ _ _ _ _ c.push.result c.args.text.now.ok.0 c.push.ensures.items c.push.ensures.full)
