use Rattle.zcert.proofs.making.+make_sets.Given as goal

abbrev pub decreases-make_sets : goal.decreases-make_sets
decreases-make_sets l = l.count
