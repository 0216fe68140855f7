use Rattle.std.proofs.Common.{◌↔◌, ℕ, subst}
use Rattle.std.specs.Prelude.{IsTrue, MatchOption}
use Rattle.zcert.specs.Facts.{facts_at}
use Rattle.zcert.specs.Listed.{listed_at}
use Rattle.zrule.specs.Rules.{AreImplied}
use Rattle.zcheck.specs.Bare.{IsBare}
use Rattle.zcheck.proofs.First.{first_bare}
use Rattle.zcheck.proofs.story_rules.has_first_place.Goals as goal

pub returns-then-is_listed_bare : goal.returns-then-is_listed_bare
returns-then-is_listed_bare g c =
    let certificate = c.args.certificate.now in
    let first = first_bare g.V.Domain.operations certificate c.args.story.now in
    let bare = subst (λ (p : ℕ). IsTrue c.is_listed_bare.result ↔ MatchOption (listed_at certificate.instructions p) ⊥ IsBare) c.first_place-place.ensures c.is_listed_bare.ensures in
    let told = subst (λ (p : ℕ). IsTrue c.hold_anyway.result ↔ AreImplied g.V.Domain.operations certificate.globals (facts_at certificate.facts p)) c.first_place-place.ensures c.hold_anyway.ensures in
    (λ t. first.1 (bare.0 c.if-is_listed_bare.true, told.0 t), λ h. told.1 (first.0 h).1)

pub returns-else-is_listed_bare : goal.returns-else-is_listed_bare
returns-else-is_listed_bare g c =
    let certificate = c.args.certificate.now in
    let first = first_bare g.V.Domain.operations certificate c.args.story.now in
    let bare = subst (λ (p : ℕ). IsTrue c.is_listed_bare.result ↔ MatchOption (listed_at certificate.instructions p) ⊥ IsBare) c.first_place-place.ensures c.is_listed_bare.ensures in
    (λ t. absurd cc, λ h. bare.1 (first.0 h).0)
