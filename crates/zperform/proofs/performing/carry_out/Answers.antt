use Rattle.std.proofs.Common.{[], inr, refl}
use Rattle.zcommand.specs.CommandLine.{request_of}
use Rattle.zperform.specs.Beside.{Unsought}
use Rattle.zperform.proofs.PerformLemmas.{says_none}
use Rattle.zperform.proofs.performing.carry_out.Goals as goal

pub returns-in-Some-clause-comes : goal.returns-in-Some-clause-comes
returns-in-Some-clause-comes g c = (Unsought, [], inr (_, refl, c.in-Some.ensures.occupied, refl, refl, refl), says_none (request_of c.args.command) _)
