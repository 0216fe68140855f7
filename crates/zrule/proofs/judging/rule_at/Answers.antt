use Rattle.zcert.specs.Listed.{seen}
use Rattle.zrule.proofs.Listed.{kept_at, broken_at}
use Rattle.zrule.proofs.judging.rule_at.Goals as goal

pub returns-clause-kept : goal.returns-clause-kept
returns-clause-kept g c =
    kept_at g.V.Domain.operations c.args.certificate.now c.args.story.now c.args.address (seen c.in_ok-listed.listed) c.in_ok-listed.ensures.value c.broken_rule.result c.broken_rule.ensures

pub returns-clause-broken : goal.returns-clause-broken
returns-clause-broken g c =
    broken_at g.V.Domain.operations c.args.certificate.now c.args.story.now c.args.address (seen c.in_ok-listed.listed) c.in_ok-listed.ensures.value c.broken_rule.result c.broken_rule.ensures
