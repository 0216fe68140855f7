use Rattle.zdict.proofs.Parts.{parts_of_line}
use Rattle.zdict.proofs.laws.tokens_are_parts.Goals as goal

pub returns : goal.returns
returns c = parts_of_line
