use Rattle.std.proofs.Common.{Some, ◌+◌, ◌↔◌, ℕ, subst}
use Rattle.std.specs.Prelude.{IsTrue}
use Rattle.zcert.specs.Facts.{facts_at}
use Rattle.zcert.specs.Listed.{Finds}
use Rattle.zcode.specs.Operation.{target}
use Rattle.zflow.specs.Transfer.{with_result}
use Rattle.zrule.specs.Rules.{AreImplied}
use Rattle.zrule.proofs.Covering.{leads_by_facts, leads_unfit}
use Rattle.zrule.proofs.edges.leads_given.Goals as goal

pub returns-then-leads_to_given : goal.returns-then-leads_to_given
returns-then-leads_to_given g c =
    let site = c.args.site in
    let is = site.certificate.now.instructions in
    let shape = with_result (Some c.args.set) (target site.instruction.now) c.args.after.now in
    let place = site.listed.now.address + site.instruction.now.size in
    let found = subst (λ (p : ℕ). Finds is p (Some c.in-Some.index)) c.next.ensures c.in-Some.ensures in
    let told = subst (λ (p : ℕ). IsTrue c.hold_anyway.result ↔ AreImplied g.V.Domain.operations site.certificate.now.globals (facts_at site.certificate.now.facts p)) c.next-then-leads_to_given.ensures c.hold_anyway.ensures in
    leads_by_facts g.V.Domain.operations site.certificate.now site.listed.now.routine site.certificate.now.globals shape place c.in-Some.index c.leads_to_given.result found c.leads_to_given.ensures c.hold_anyway.result c.if-leads_to_given.true told

pub returns-else-leads_to_given : goal.returns-else-leads_to_given
returns-else-leads_to_given g c =
    let site = c.args.site in
    let is = site.certificate.now.instructions in
    let shape = with_result (Some c.args.set) (target site.instruction.now) c.args.after.now in
    let place = site.listed.now.address + site.instruction.now.size in
    let found = subst (λ (p : ℕ). Finds is p (Some c.in-Some.index)) c.next.ensures c.in-Some.ensures in
    leads_unfit g.V.Domain.operations site.certificate.now site.listed.now.routine site.certificate.now.globals shape place c.in-Some.index c.leads_to_given.result found c.leads_to_given.ensures c.leads_to_given.result c.if-leads_to_given.false c.if-leads_to_given.false
