use Rattle.zcode.specs.Operation.{target}
use Rattle.zflow.specs.Transfer.{globals_after}
use Rattle.zrule.specs.Claims.{claims_of, globals_at}
use Rattle.zrule.proofs.Covering.{leads_by_facts, leads_unfit}
use Rattle.zrule.proofs.edges.leads.Goals as goal

pub returns-then-leads_to : goal.returns-then-leads_to
returns-then-leads_to g c =
    let site = c.args.site in
    let globals = globals_after (globals_at (claims_of g.V.Domain.operations site.certificate.now) site.listed.now.address) (target site.instruction.now) c.args.outcome.now in
    leads_by_facts g.V.Domain.operations site.certificate.now site.listed.now.routine globals c.args.after.now c.args.to c.in-Some.index c.leads_to.result c.in-Some.ensures c.leads_to.ensures c.keeps_facts.result c.if-leads_to.true c.keeps_facts.ensures

pub returns-else-leads_to : goal.returns-else-leads_to
returns-else-leads_to g c =
    let site = c.args.site in
    let globals = globals_after (globals_at (claims_of g.V.Domain.operations site.certificate.now) site.listed.now.address) (target site.instruction.now) c.args.outcome.now in
    leads_unfit g.V.Domain.operations site.certificate.now site.listed.now.routine globals c.args.after.now c.args.to c.in-Some.index c.leads_to.result c.in-Some.ensures c.leads_to.ensures c.leads_to.result c.if-leads_to.false c.if-leads_to.false
