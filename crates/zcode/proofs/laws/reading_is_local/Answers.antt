use Rattle.zcode.proofs.ReadingLaws.{kept}
use Rattle.zcode.proofs.laws.reading_is_local.Goals as goal

pub returns : goal.returns
returns c = kept
