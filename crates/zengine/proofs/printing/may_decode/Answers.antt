use Rattle.zengine.proofs.Titles.{printable}
use Rattle.zengine.proofs.printing.may_decode.Goals as goal

pub returns-in-Ok : goal.returns-in-Ok
returns-in-Ok c = printable _ c.in-Ok.ensures.ok
