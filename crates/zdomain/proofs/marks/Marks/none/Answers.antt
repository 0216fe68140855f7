use Rattle.zdomain.proofs.Bits.{unmarked}
use Rattle.zdomain.proofs.marks.Marks.none.Goals as goal

pub returns : goal.returns
returns g c = unmarked g.row.BYTES
