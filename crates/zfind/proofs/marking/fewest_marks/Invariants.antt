use Rattle.zfind.specs.Marking.{IsMarkedWithin}
use Rattle.zfind.proofs.marking.fewest_marks.Given as goal

abbrev pub invariant-loop-delay : goal.invariant-loop-delay
invariant-loop-delay g l = IsMarkedWithin l.story l.limit l.best
