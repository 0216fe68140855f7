use Rattle.std.proofs.Common.{refl}
use Rattle.zcert.specs.Listed.{seen}
use Rattle.zrule.specs.declared.rule.Rule.TheVariants.{Called, Successor}
use Rattle.zrule.specs.Claims.{claims_of, entry_of}
use Rattle.zrule.proofs.Asking.{calls_asked, successor_asked, uncertain_asked}
use Rattle.zrule.proofs.judging.has_successors.Goals as goal

pub returns-then-not-known : goal.returns-then-not-known
returns-then-not-known g c = (λ t divides reads knows begins. absurd (let kept = c.requires.known.1 (divides, reads, knows) in let not = c.if-not-known.true in cc), λ asked. refl)

pub returns-then-not-edges_keep : goal.returns-then-not-edges_keep
returns-then-not-edges_keep g c =
    let called = calls_asked g.V.Domain.operations (claims_of g.V.Domain.operations c.args.site.certificate.now) c.args.site.story.now c.args.site.listed.now.address (entry_of (seen c.args.site.listed.now)) c.args.site.instruction.now c.requires.there c.args.flow.now c.requires.flow Called c.edges_keep.result c.edges_keep.ensures refl in
    (λ t divides reads knows begins. absurd (let kept = called.1 begins in let not = c.if-not-edges_keep.true in cc), λ asked. refl)

pub returns-then-flow : goal.returns-then-flow
returns-then-flow g c =
    let called = calls_asked g.V.Domain.operations (claims_of g.V.Domain.operations c.args.site.certificate.now) c.args.site.story.now c.args.site.listed.now.address (entry_of (seen c.args.site.listed.now)) c.args.site.instruction.now c.requires.there c.args.flow.now c.requires.flow Called c.edges_keep.result c.edges_keep.ensures refl in
    successor_asked g.V.Domain.operations (claims_of g.V.Domain.operations c.args.site.certificate.now) c.args.site.story.now c.args.site.listed.now.address (entry_of (seen c.args.site.listed.now)) c.args.site.instruction.now c.requires.there c.args.flow.now c.requires.flow Successor c.edges_keep-then-flow.result c.edges_keep-then-flow.ensures refl c.args.known c.edges_keep.result (λ k. (c.requires.known.0 k).0) (λ k. (c.requires.known.0 k).1) (λ k. (c.requires.known.0 k).2) c.if-not-known.false called.0 c.if-not-edges_keep.false c.if-flow.true

pub returns-else-flow : goal.returns-else-flow
returns-else-flow g c =
    let called = calls_asked g.V.Domain.operations (claims_of g.V.Domain.operations c.args.site.certificate.now) c.args.site.story.now c.args.site.listed.now.address (entry_of (seen c.args.site.listed.now)) c.args.site.instruction.now c.requires.there c.args.flow.now c.requires.flow Called c.edges_keep.result c.edges_keep.ensures refl in
    uncertain_asked g.V.Domain.operations (claims_of g.V.Domain.operations c.args.site.certificate.now) c.args.site.story.now c.args.site.listed.now.address (entry_of (seen c.args.site.listed.now)) c.args.site.instruction.now c.requires.there c.args.flow.now c.requires.flow Called c.edges_keep.result c.edges_keep.ensures c.args.known c.edges_keep.result (λ k. (c.requires.known.0 k).0) (λ k. (c.requires.known.0 k).1) (λ k. (c.requires.known.0 k).2) c.if-not-known.false called.0 c.if-not-edges_keep.false c.if-flow.false
