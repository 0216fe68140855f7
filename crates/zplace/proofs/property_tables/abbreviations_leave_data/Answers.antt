use Rattle.std.proofs.Common.{refl, arith}
use Rattle.zplace.specs.Places.{AbbreviationLeavesData}
use Rattle.zplace.proofs.Each.{abbreviations_where, one_more_below}
use Rattle.zplace.proofs.property_tables.abbreviations_leave_data.Goals as goal

pub returns-then-not-abbreviation_leaves_data : goal.returns-then-not-abbreviation_leaves_data
returns-then-not-abbreviation_leaves_data c =
    (λ no. absurd cc, λ all. c.if-not-abbreviation_leaves_data.ensures.1 ((abbreviations_where c.args.story.now).0 all c.loop-number.number c.loop-number-test.true))

pub loop-number-preserved : goal.loop-number-preserved
loop-number-preserved c =
    one_more_below (AbbreviationLeavesData c.args.story.now) c.loop-number.number c.loop-number.invariant (c.if-not-abbreviation_leaves_data.ensures.0 refl)

pub returns : goal.returns
returns c =
    let all_told = c.loop-number-test.false in
    (λ yes. (abbreviations_where c.args.story.now).1 (λ number few. c.loop-number.invariant number (omega (arith, few, all_told))), λ all. refl)
