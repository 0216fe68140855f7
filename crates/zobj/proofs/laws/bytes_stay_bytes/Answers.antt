use Rattle.zobj.proofs.Bits.{attribute_bytes}
use Rattle.zobj.proofs.Keeping.{unlinked_bytes, inserted_bytes}
use Rattle.zobj.proofs.Puts.{value_bytes}
use Rattle.zobj.proofs.laws.bytes_stay_bytes.Goals as goal

pub returns-clause-attributes : goal.returns-clause-attributes
returns-clause-attributes c = attribute_bytes

pub returns-clause-unlinked : goal.returns-clause-unlinked
returns-clause-unlinked c = unlinked_bytes

pub returns-clause-inserted : goal.returns-clause-inserted
returns-clause-inserted c = inserted_bytes

pub returns-clause-values : goal.returns-clause-values
returns-clause-values c = value_bytes
