use Rattle.zcode.proofs.Found.{spelled_well_formed}
use Rattle.zcode.proofs.ReadingLaws.{reads_iff_spelled}
use Rattle.zcode.proofs.laws.reading_is_spelling.Goals as goal

pub returns-clause-same : goal.returns-clause-same
returns-clause-same c = reads_iff_spelled

pub returns-clause-well_formed : goal.returns-clause-well_formed
returns-clause-well_formed c = λ bytes i (front, rest, parts, s). spelled_well_formed front i s
