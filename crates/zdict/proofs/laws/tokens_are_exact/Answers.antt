use Rattle.zdict.proofs.Exact.{tokens_exact}
use Rattle.zdict.proofs.laws.tokens_are_exact.Goals as goal

pub returns : goal.returns
returns c = tokens_exact
