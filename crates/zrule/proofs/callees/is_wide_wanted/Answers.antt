use Rattle.zrule.specs.Claims.{claims_of}
use Rattle.zrule.proofs.callees.is_wide_wanted.Goals as goal

pub returns-in-Some-clause-kept : goal.returns-in-Some-clause-kept
returns-in-Some-clause-kept g c = λ yes. c.is_as_wanted.ensures (claims_of g.V.Domain.operations c.args.site.certificate.now) c.args.site.story.now 4096 c.args.packed yes c.in-Some.ensures.told
