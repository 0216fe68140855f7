use Rattle.std.proofs.Common.{rules, ◌+◌, ◌<◌, ◌∙◌, ℕ, sym}
use Rattle.zcode.specs.Operation.{target}
use Rattle.zdomain.specs.Domain.{In}
use Rattle.zrule.specs.Claims.{claims_of}
use Rattle.zrule.proofs.Behind.{back_any}
use Rattle.zrule.proofs.edges.callees_lead.Goals as goal

pub returns-in-None : goal.returns-in-None
returns-in-None g c =
    let called : (w : ℕ) × In g.V.Domain.operations c.args.set w × (0 < w) = search rules in
    let told = back_any g.V.Domain.operations (claims_of g.V.Domain.operations c.args.site.certificate.now) c.args.site.listed.now.routine (target c.args.site.instruction.now) (c.args.site.listed.now.address + c.args.site.instruction.now.size) c.args.after.now c.args.set c.any.result (sym c.stated_behind.ensures ∙ c.in-None.is) called in
    (λ t. told.1 (c.leads_given.ensures.0 t), λ each. c.leads_given.ensures.1 (told.0 each))
