use Rattle.std.proofs.Common.{rules, ◌<◌}
use Rattle.zcert.specs.Listed.{seen}
use Rattle.zrule.specs.Claims.{claims_of, entry_of}
use Rattle.zrule.specs.Rules.{Keeps}
use Rattle.zrule.proofs.Order.{kept_next, lowest_broken}
use Rattle.zrule.proofs.judging.first_broken.Goals as goal

pub returns-then-not-keeps-clause-broken : goal.returns-then-not-keeps-clause-broken
returns-then-not-keeps-clause-broken g c =
    let within : c.loop-rule.rule-index < 17 = search rules in
    lowest_broken g.V.Domain.operations (claims_of g.V.Domain.operations c.args.site.certificate.now) c.args.site.story.now c.args.site.listed.now.address (entry_of (seen c.args.site.listed.now)) c.loop-rule.rule-index _ within (λ k. let yes = c.keeps.ensures.1 k in let no = c.if-not-keeps.true in absurd cc) (c.args.site.instruction.now, c.requires.there) c.loop-rule.invariant

pub loop-rule-preserved : goal.loop-rule-preserved
loop-rule-preserved g c =
    let within : c.loop-rule.rule-index < 17 = search rules in
    kept_next (Keeps g.V.Domain.operations (claims_of g.V.Domain.operations c.args.site.certificate.now) c.args.site.story.now c.args.site.listed.now.address (entry_of (seen c.args.site.listed.now))) c.loop-rule.rule-index _ within (c.keeps.ensures.0 (let yes = c.if-not-keeps.false in cc)) c.loop-rule.invariant
