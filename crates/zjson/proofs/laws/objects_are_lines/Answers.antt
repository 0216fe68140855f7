use Rattle.zjson.proofs.OneLine.{has_no_end}
use Rattle.zjson.proofs.laws.objects_are_lines.Goals as goal

pub returns : goal.returns
returns c = has_no_end
