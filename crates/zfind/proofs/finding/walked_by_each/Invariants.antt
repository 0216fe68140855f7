use Rattle.zfind.specs.Finding.{IsLess}
use Rattle.zfind.proofs.finding.walked_by_each.Given as goal

abbrev pub invariant-loop-given : goal.invariant-loop-given
invariant-loop-given g l = IsLess l.left l.fn.left
