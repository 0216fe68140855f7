use Rattle.std.proofs.Common.{◌≡◌, ℕ, List, subst}
use Rattle.std.specs.Prelude.{slice_get}
use Rattle.zcode.specs.Operation.{target}
use Rattle.zflow.specs.Transfer.{globals_after}
use Rattle.zrule.specs.Claims.{claims_of, globals_at}
use Rattle.zrule.proofs.Implied.{first_decides, others_decide}
use Rattle.zrule.proofs.edges.+are_kept.Goals as goal

pub returns-then-is_implied : goal.returns-then-is_implied
returns-then-is_implied g t c =
    let site = c.args.site in
    let before = globals_at (claims_of g.V.Domain.operations site.certificate.now) site.listed.now.address in
    let globals = globals_after before (target site.instruction.now) c.args.outcome.now in
    let fact = c.fact-item.result in
    let told = subst (λ (gs : List _). c.global_behind-known.result ≡ slice_get (globals_after gs c.target.result c.args.outcome.now) fact.global) c.globals.ensures c.global_behind-known.ensures in
    let known = subst (λ (v : ℕ). c.global_behind-known.result ≡ slice_get (globals_after before v c.args.outcome.now) fact.global) c.target.ensures told in
    others_decide g.V.Domain.operations globals c.args.facts.now fact c.in-len1-up.len_at_least c.fact-item.is c.global_behind-known.result c.is_implied.result known c.is_implied.ensures c.are_kept.result c.if-is_implied.true c.are_kept.ensures

pub returns-else-is_implied : goal.returns-else-is_implied
returns-else-is_implied g t c =
    let site = c.args.site in
    let before = globals_at (claims_of g.V.Domain.operations site.certificate.now) site.listed.now.address in
    let globals = globals_after before (target site.instruction.now) c.args.outcome.now in
    let fact = c.fact-item.result in
    let told = subst (λ (gs : List _). c.global_behind-known.result ≡ slice_get (globals_after gs c.target.result c.args.outcome.now) fact.global) c.globals.ensures c.global_behind-known.ensures in
    let known = subst (λ (v : ℕ). c.global_behind-known.result ≡ slice_get (globals_after before v c.args.outcome.now) fact.global) c.target.ensures told in
    first_decides g.V.Domain.operations globals c.args.facts.now fact c.in-len1-up.len_at_least c.fact-item.is c.global_behind-known.result c.is_implied.result known c.is_implied.ensures c.if-is_implied.false
