use Rattle.std.proofs.Common.{length}
use Rattle.zfront.proofs.Lining.{given_line}
use Rattle.zfront.proofs.lined.LinedSource.read.Goals as goal

-- what was given is a line of what was held
pub returns-clause-one_line : goal.returns-clause-one_line
returns-clause-one_line g c = given_line _ (length c.args.buffer.now) c.if-is_empty-2.self.ahead _ _ c.give.ensures.count c.give.ensures.given
