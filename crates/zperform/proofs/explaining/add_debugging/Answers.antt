use Rattle.zperform.specs.Finding.{objects_of_debugging}
use Rattle.zperform.proofs.explaining.add_debugging.Goals as goal

pub returns : goal.returns
unfolding objects_of_debugging
returns c = c.add_objects.ensures
