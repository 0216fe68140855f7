use Rattle.zfind.specs.Finding.{IsLess}
use Rattle.zfind.proofs.finding.searched.Given as goal

abbrev pub invariant-loop : goal.invariant-loop
invariant-loop g l = IsLess l.left l.fn.left
