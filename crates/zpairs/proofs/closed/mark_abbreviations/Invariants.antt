use Rattle.zpairs.specs.Fixed.{AreMarkedBelow, any_below, is_in_abbreviation}
use Rattle.zpairs.proofs.closed.mark_abbreviations.Given as goal

abbrev pub invariant-loop-number : goal.invariant-loop-number
invariant-loop-number l = AreMarkedBelow l.fn.end l.initial.marks l.marks (λ p. any_below l.number (λ n. is_in_abbreviation l.memory l.table n p))
