use Rattle.zcert.specs.Listed.{seen}
use Rattle.zrule.specs.Claims.{claims_of, entry_of, frozen_in}
use Rattle.zrule.proofs.Asking.{same_asked, height_unknown, local_unknown, prints_told, text_fixed, called_asked, returned_asked, stored_asked, high_asked}
use Rattle.zrule.specs.declared.rule.Rule.TheVariants.{Successor}
use Rattle.zrule.proofs.judging.asks.Goals as goal

pub returns-then-not-is_known : goal.returns-then-not-is_known
returns-then-not-is_known g c = height_unknown g.V.Domain.operations (claims_of g.V.Domain.operations c.args.site.certificate.now) c.args.site.story.now c.args.site.listed.now.address (entry_of (seen c.args.site.listed.now)) c.args.site.instruction.now c.requires.there c.args.rule c.is_known.result c.in-Height.is c.is_known.ensures.1 c.if-not-is_known.true

pub returns-then-not-is_known-2 : goal.returns-then-not-is_known-2
returns-then-not-is_known-2 g c = local_unknown g.V.Domain.operations (claims_of g.V.Domain.operations c.args.site.certificate.now) c.args.site.story.now c.args.site.listed.now.address (entry_of (seen c.args.site.listed.now)) c.args.site.instruction.now c.requires.there c.args.rule c.is_known-in-Local.result c.in-Local.is c.is_known-in-Local.ensures.1 c.if-not-is_known-2.true

pub returns-in-Text : goal.returns-in-Text
returns-in-Text g c =
    let o = g.V.Domain.operations in let claims = claims_of o c.args.site.certificate.now in let story = c.args.site.story.now in let at = c.args.site.listed.now.address in let e = entry_of (seen c.args.site.listed.now) in let i = c.args.site.instruction.now in
    let printed = prints_told o claims story at e i c.requires.there c.args.site.tables.now c.requires.tables c.args.flow.now c.requires.flow c.prints_fixed.result c.prints_fixed.ensures in
    text_fixed o claims story at e i c.requires.there c.args.rule c.prints_fixed.result c.in-Text.is (c.texts_are_fixed.ensures (frozen_in claims) at i c.requires.there) printed

pub returns-in-Returned : goal.returns-in-Returned
returns-in-Returned g c = returned_asked g.V.Domain.operations (claims_of g.V.Domain.operations c.args.site.certificate.now) c.args.site.story.now c.args.site.listed.now.address (entry_of (seen c.args.site.listed.now)) c.args.site.instruction.now c.requires.there c.args.flow.now c.requires.flow c.args.rule c.edges_keep-in-Returned.result c.edges_keep-in-Returned.ensures c.in-Returned.is

pub returns-in-Stored : goal.returns-in-Stored
returns-in-Stored g c = stored_asked g.V.Domain.operations (claims_of g.V.Domain.operations c.args.site.certificate.now) c.args.site.story.now c.args.site.listed.now.address (entry_of (seen c.args.site.listed.now)) c.args.site.instruction.now c.requires.there c.args.flow.now c.requires.flow c.args.rule c.edges_keep-in-Stored.result c.edges_keep-in-Stored.ensures c.in-Stored.is

pub returns-in-High : goal.returns-in-High
returns-in-High g c = high_asked g.V.Domain.operations (claims_of g.V.Domain.operations c.args.site.certificate.now) c.args.site.story.now c.args.site.listed.now.address (entry_of (seen c.args.site.listed.now)) c.args.site.instruction.now c.requires.there c.args.flow.now c.requires.flow c.args.rule c.edges_keep-in-High.result c.edges_keep-in-High.ensures c.in-High.is

pub returns-in-Called : goal.returns-in-Called
returns-in-Called g c = called_asked g.V.Domain.operations (claims_of g.V.Domain.operations c.args.site.certificate.now) c.args.site.story.now c.args.site.listed.now.address (entry_of (seen c.args.site.listed.now)) c.args.site.instruction.now c.requires.there c.args.flow.now c.requires.flow c.args.rule c.edges_keep.result c.edges_keep.ensures c.in-Called.is

pub returns-in-Successor : goal.returns-in-Successor
returns-in-Successor g c = same_asked g.V.Domain.operations (claims_of g.V.Domain.operations c.args.site.certificate.now) c.args.site.story.now c.args.site.listed.now.address (entry_of (seen c.args.site.listed.now)) c.args.site.instruction.now c.requires.there c.args.rule Successor c.has_successors.result c.in-Successor.is c.has_successors.ensures
