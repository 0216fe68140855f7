use Rattle.std.proofs.Common.{rules, arith}
use Rattle.zcheck.specs.Tables.{HasAbbreviation}
use Rattle.zrule.proofs.Below.{one_more}
use Rattle.zcheck.proofs.Apart.{abbreviations_each}
use Rattle.zcheck.proofs.tables.has_abbreviations.Goals as goal

pub returns-then-not-has_abbreviation : goal.returns-then-not-has_abbreviation
returns-then-not-has_abbreviation c =
    (λ f. absurd cc, λ has. let here = (abbreviations_each c.args.story.now).0 has c.loop-number.number (search (rules, arith)) in search (rules, here))

pub loop-number-preserved : goal.loop-number-preserved
loop-number-preserved c = one_more (HasAbbreviation c.args.story.now) c.loop-number.number c.loop-number.invariant (search rules)

pub returns : goal.returns
returns c = (λ t. (abbreviations_each c.args.story.now).1 (λ n few. c.loop-number.invariant n (search (rules, arith))), λ has. search rules)
