use Rattle.std.proofs.Common.{arith}
use Rattle.zrule.proofs.callees.wanted_to.Goals as goal

pub returns-then-is_wide_wanted-clause-kept : goal.returns-then-is_wide_wanted-clause-kept
returns-then-is_wide_wanted-clause-kept g c = (omega arith, λ x above most. c.is_wide_wanted.ensures.kept c.if-is_wide_wanted.true x above (omega (arith, most)))

pub returns-then-is_block_wanted-clause-kept : goal.returns-then-is_block_wanted-clause-kept
returns-then-is_block_wanted-clause-kept g c = (omega arith, λ x above most. c.is_block_wanted.ensures.kept c.if-is_block_wanted.true x above (omega (arith, most)))
