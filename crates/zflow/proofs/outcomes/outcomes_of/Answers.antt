use Rattle.zflow.proofs.outcomes.outcomes_of.Goals as goal

pub returns-in-Count-clause-held : goal.returns-in-Count-clause-held
returns-in-Count-clause-held g c = rw c.in-Count.is (c.counted.ensures.held c.args.tables.now c.args.operands.now)

pub returns-in-Count-clause-failed : goal.returns-in-Count-clause-failed
returns-in-Count-clause-failed g c = rw c.in-Count.is (c.counted.ensures.failed c.args.tables.now c.args.operands.now)
