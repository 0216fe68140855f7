use Rattle.std.proofs.Common.{◌≡◌, ◌+◌, ℤ, pos, ◌+ℤ◌, rules}
use Rattle.zcode.specs.Operation.{target}
use Rattle.zflow.specs.Transfer.{globals_after}
use Rattle.zrule.specs.Claims.{claims_of, globals_at}
use Rattle.zrule.specs.Rules.{Leads}
use Rattle.zrule.proofs.Covering.{ahead_where}
use Rattle.zrule.proofs.edges.leads_ahead.Goals as goal

pub returns-in-Ok : goal.returns-in-Ok
returns-in-Ok g c =
    let site = c.args.site in
    let claims = claims_of g.V.Domain.operations site.certificate.now in
    let next = site.listed.now.address + site.instruction.now.size in
    let ahead : pos next +ℤ c.args.distance ≡ pos c.in-Ok.to = search rules in
    ahead_where next c.in-Ok.to c.args.distance (Leads g.V.Domain.operations claims site.listed.now.routine (globals_after (globals_at claims site.listed.now.address) (target site.instruction.now) c.args.outcome.now) c.args.after.now) c.leads.result ahead c.leads.ensures
