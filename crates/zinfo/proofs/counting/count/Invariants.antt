use Rattle.zinfo.specs.Walked.{IsCountTo}
use Rattle.zinfo.proofs.counting.count.Given as goal

abbrev pub invariant-loop-address : goal.invariant-loop-address
invariant-loop-address l = IsCountTo l.story l.opcode l.address l.count
