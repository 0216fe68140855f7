use Rattle.zfind.specs.Finding.{IsLess}
use Rattle.zfind.proofs.finding.walked.Given as goal

abbrev pub invariant-loop-delay : goal.invariant-loop-delay
invariant-loop-delay g l = IsLess l.left l.fn.left
