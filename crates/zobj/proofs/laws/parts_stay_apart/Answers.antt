use Rattle.zobj.proofs.Bytes.{all_rest, behind_rests}
use Rattle.zobj.proofs.laws.parts_stay_apart.Goals as goal

pub returns-clause-entries_stay : goal.returns-clause-entries_stay
returns-clause-entries_stay c = all_rest

pub returns-clause-behind_stays : goal.returns-clause-behind_stays
returns-clause-behind_stays c = behind_rests
