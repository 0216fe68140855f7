use Rattle.zobj.proofs.Lists.{properties_from-step}
use Rattle.zobj.proofs.laws.lists_go_on.Goals as goal

pub returns : goal.returns
returns c = properties_from-step
