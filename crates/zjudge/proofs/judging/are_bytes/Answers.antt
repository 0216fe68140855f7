use Rattle.std.proofs.Common.{rules}
use Rattle.zjudge.proofs.judging.are_bytes.Goals as goal

pub returns : goal.returns
returns c = λ p. search rules
