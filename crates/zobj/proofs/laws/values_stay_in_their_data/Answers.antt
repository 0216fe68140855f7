use Rattle.zobj.proofs.Puts.{value_differs}
use Rattle.zobj.proofs.laws.values_stay_in_their_data.Goals as goal

pub returns : goal.returns
returns c = value_differs
