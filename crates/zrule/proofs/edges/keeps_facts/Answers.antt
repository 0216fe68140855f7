use Rattle.zrule.proofs.edges.keeps_facts.Goals as goal

pub returns : goal.returns
returns g c = rw c.facts_at.ensures.value at c.are_kept.ensures
