use Rattle.zexplain.specs.Short.{codes_of_debugging}
use Rattle.zexplain.proofs.short.push_debugging.Goals as goal

pub returns : goal.returns
unfolding codes_of_debugging
returns c = c.push_headings.ensures
