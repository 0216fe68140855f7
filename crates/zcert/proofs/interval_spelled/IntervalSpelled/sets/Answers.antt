use Rattle.zcert.proofs.Fronts.{intervals_held}
use Rattle.zcert.proofs.interval_spelled.IntervalSpelled.sets.Goals as goal

pub slice_bounds-result-end : goal.slice_bounds-result-end
slice_bounds-result-end c = intervals_held c.args.count c.args.kept.now c.requires.kept
