use Rattle.std.proofs.Common.{◌≡◌, ℕ, List, subst}
use Rattle.std.specs.Prelude.{slice_get}
use Rattle.zrule.proofs.Implied.{first_decides, others_decide}
use Rattle.zrule.proofs.facts.+are_implied.Goals as goal

pub returns-then-is_implied : goal.returns-then-is_implied
returns-then-is_implied g t c =
    let told = subst (λ (gs : List _). c.get-known.result ≡ slice_get gs c.from.result) c.of.ensures c.get-known.ensures in
    let known = subst (λ (k : ℕ). c.get-known.result ≡ slice_get c.args.globals.now k) c.from.ensures told in
    others_decide g.V.Domain.operations c.args.globals.now c.args.facts.now c.fact-item.result c.in-len1-up.len_at_least c.fact-item.is c.get-known.result c.is_implied.result known c.is_implied.ensures c.are_implied.result c.if-is_implied.true c.are_implied.ensures

pub returns-else-is_implied : goal.returns-else-is_implied
returns-else-is_implied g t c =
    let told = subst (λ (gs : List _). c.get-known.result ≡ slice_get gs c.from.result) c.of.ensures c.get-known.ensures in
    let known = subst (λ (k : ℕ). c.get-known.result ≡ slice_get c.args.globals.now k) c.from.ensures told in
    first_decides g.V.Domain.operations c.args.globals.now c.args.facts.now c.fact-item.result c.in-len1-up.len_at_least c.fact-item.is c.get-known.result c.is_implied.result known c.is_implied.ensures c.if-is_implied.false
