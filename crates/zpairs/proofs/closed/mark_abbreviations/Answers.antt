use Rattle.std.proofs.Common.{ℕ, refl, subst}
use Rattle.zpairs.specs.Fixed.{AreMarkedBelow, is_in_abbreviation}
use Rattle.zpairs.proofs.Marking.{none_more, one_more_marked}
use Rattle.zpairs.proofs.closed.mark_abbreviations.Goals as goal

pub loop-number-init : goal.loop-number-init
loop-number-init c = none_more c.args.end c.args.marks.now 0 (λ p n. is_in_abbreviation c.args.memory.now c.args.table n p) refl

pub loop-number-preserved : goal.loop-number-preserved
loop-number-preserved c =
    one_more_marked c.args.end c.args.marks.now c.loop-number.marks c.mark_abbreviation.new.marks c.loop-number.number (λ p n. is_in_abbreviation c.args.memory.now c.args.table n p) c.loop-number.invariant (subst (λ (n : ℕ). AreMarkedBelow c.args.end c.loop-number.marks c.mark_abbreviation.new.marks (λ p. is_in_abbreviation c.args.memory.now c.args.table n p)) c.from.ensures c.mark_abbreviation.ensures)
