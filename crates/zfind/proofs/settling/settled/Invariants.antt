use Rattle.zfind.specs.Finding.{IsLess}
use Rattle.zfind.proofs.settling.settled.Given as goal

abbrev pub invariant-loop-index : goal.invariant-loop-index
invariant-loop-index g l = IsLess l.left l.fn.left
