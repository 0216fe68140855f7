use Rattle.zpairs.proofs.Ranged.{none_marked}
use Rattle.zpairs.proofs.frozen.mark_ranges.Goals as goal

pub loop-left-init : goal.loop-left-init
loop-left-init c = record { so_far = λ p word. none_marked c.args.ranges.now c.none.result p (c.none.ensures p) }
