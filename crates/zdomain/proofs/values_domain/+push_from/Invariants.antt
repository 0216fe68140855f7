use Rattle.zdomain.proofs.values_domain.+push_from.Given as goal

abbrev pub decreases-push_from : goal.decreases-push_from
decreases-push_from l = l.count
