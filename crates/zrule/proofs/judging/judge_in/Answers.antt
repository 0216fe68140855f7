use Rattle.zcert.specs.Listed.{seen}
use Rattle.zrule.specs.Claims.{claims_of, entry_of}
use Rattle.zrule.specs.Rules.{Keeps}
use Rattle.zrule.proofs.Order.{none_below}
use Rattle.zrule.proofs.judging.judge_in.Goals as goal

pub returns-in_default-clause-broken : goal.returns-in_default-clause-broken
returns-in_default-clause-broken g c = record {
  broken = λ there. c.in_default.ensures.none there.0 there.1;
  before = none_below (Keeps g.V.Domain.operations (claims_of g.V.Domain.operations c.args.certificate.now) c.args.story.now c.args.listed.now.address (entry_of (seen c.args.listed.now)));
}
