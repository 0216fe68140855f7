use Rattle.std.proofs.Common.{◌+◌}
use Rattle.zcode.specs.Operation.{target}
use Rattle.zrule.specs.Claims.{claims_of}
use Rattle.zrule.proofs.Behind.{back_stated}
use Rattle.zrule.proofs.edges.leads_stated.Goals as goal

pub returns-then-not-leads_given : goal.returns-then-not-leads_given
returns-then-not-leads_given g c =
    let told = back_stated g.V.Domain.operations (claims_of g.V.Domain.operations c.args.site.certificate.now) c.args.site.listed.now.routine (target c.args.site.instruction.now) (c.args.site.listed.now.address + c.args.site.instruction.now.size) c.args.after.now c.args.set c.args.stated c.requires.stated c.requires.called in
    (λ t. absurd cc, λ each. absurd (let led = c.leads_given.ensures.1 (told.0 each).0 in let not = c.if-not-leads_given.true in cc))

pub returns : goal.returns
returns g c =
    let told = back_stated g.V.Domain.operations (claims_of g.V.Domain.operations c.args.site.certificate.now) c.args.site.listed.now.routine (target c.args.site.instruction.now) (c.args.site.listed.now.address + c.args.site.instruction.now.size) c.args.after.now c.args.set c.args.stated c.requires.stated c.requires.called in
    (λ t. told.1 (c.leads_given.ensures.0 c.if-not-leads_given.false, c.callees_are.ensures.0 t), λ each. c.callees_are.ensures.1 (told.0 each).1)
