use Rattle.std.proofs.Common.{subst, sym, ◌∙◌, Some}
use Rattle.std.specs.Prelude.{pos}
use Rattle.std.proofs.lemmas.Bool.{false≢true}
use Rattle.zlist.specs.declared.list_error.ListError.{ListError}
use Rattle.zlist.specs.Listed.{IsFirstAt, IsShared, IsComputed}
use Rattle.zlist.proofs.Faults.{is_headless, is_jump, is_none, is_two, is_unspelled}
use Rattle.zlist.proofs.lister.fault_at.Goals as goal

pub returns-in-Some-clause-first : goal.returns-in-Some-clause-first
returns-in-Some-clause-first c =
    subst (λ (e : ListError). IsFirstAt c.args.story.now (pos c.args.address) (Some e)) (sym c.nothing_at.ensures) (is_unspelled c.args.story.now c.args.address c.in-Some.cause c.in-Some.ensures.some)

pub returns-in-Some-headless-clause-first : goal.returns-in-Some-headless-clause-first
returns-in-Some-headless-clause-first c =
    subst (λ (e : ListError). IsFirstAt c.args.story.now (pos c.args.address) (Some e)) (sym c.nothing_at-in-Some-headless.ensures) (is_headless c.args.story.now c.args.address c.in-Some-headless.cause c.in_default.ensures.none c.in-Some-headless.ensures.some)

pub returns-then-is_shared-clause-first : goal.returns-then-is_shared-clause-first
returns-then-is_shared-clause-first c = is_two c.args.story.now c.args.address c.in_default.ensures.none c.in_default-headless.ensures.none (c.is_shared.ensures.0 c.if-is_shared.true)

pub returns-then-is_computed-clause-first : goal.returns-then-is_computed-clause-first
returns-then-is_computed-clause-first c =
    let unshared : IsShared c.args.story.now (pos c.args.address) → ⊥ = λ it. false≢true (sym c.if-is_shared.false ∙ c.is_shared.ensures.1 it) in
    is_jump c.args.story.now c.args.address c.in_default.ensures.none c.in_default-headless.ensures.none unshared (c.is_computed.ensures.value.0 c.if-is_computed.true)

pub returns-clause-first : goal.returns-clause-first
returns-clause-first c =
    let unshared : IsShared c.args.story.now (pos c.args.address) → ⊥ = λ it. false≢true (sym c.if-is_shared.false ∙ c.is_shared.ensures.1 it) in
    let constant : IsComputed c.args.story.now (pos c.args.address) → ⊥ = λ it. false≢true (sym c.if-is_computed.false ∙ c.is_computed.ensures.value.1 it) in
    is_none c.args.story.now c.args.address c.in_default.ensures.none c.in_default-headless.ensures.none unshared constant
