use Rattle.zline.proofs.Keeping.{lines_stay}
use Rattle.zline.proofs.laws.lines_stay_in_their_buffers.Goals as goal

pub returns : goal.returns
returns c = lines_stay
