use Rattle.zfront.proofs.Determined.{is_wrapped}
use Rattle.zfront.proofs.laws.text_is_wrapped.Goals as goal

pub returns : goal.returns
returns c = is_wrapped
