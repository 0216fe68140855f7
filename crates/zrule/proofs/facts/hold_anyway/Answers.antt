use Rattle.zrule.proofs.facts.hold_anyway.Goals as goal

pub returns : goal.returns
returns g c = rw c.facts_at.ensures.value at (rw c.globals.ensures.value at c.are_implied.ensures)
