use Rattle.std.proofs.Common.{sym, ap}
use Rattle.zobj.specs.Properties.{first_number}
use Rattle.zobj.proofs.Lists.{at_property, at_end}
use Rattle.zobj.proofs.property.number_at.Goals as goal

pub returns-in-Some : goal.returns-in-Some
returns-in-Some c = sym (ap first_number (at_property c.args.memory.now c.args.at c.in-Some.property c.in-Some.ensures.value))

pub returns-in-None : goal.returns-in-None
returns-in-None c = sym (ap first_number (at_end c.args.memory.now c.args.at c.in-None.ensures.value))
