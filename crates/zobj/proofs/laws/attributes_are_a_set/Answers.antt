use Rattle.zobj.proofs.Bits.{attribute_set}
use Rattle.zobj.proofs.laws.attributes_are_a_set.Goals as goal

pub returns : goal.returns
returns c = attribute_set
