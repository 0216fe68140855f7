use Rattle.zcert.specs.Listed.{seen}
use Rattle.zrule.specs.Claims.{claims_of, entry_of}
use Rattle.zrule.proofs.Asking.{asks_keeps}
use Rattle.zrule.proofs.judging.keeps.Goals as goal

pub returns : goal.returns
returns g c =
    let told = asks_keeps g.V.Domain.operations (claims_of g.V.Domain.operations c.args.site.certificate.now) c.args.site.story.now c.args.site.listed.now.address (entry_of (seen c.args.site.listed.now)) c.args.site.instruction.now c.requires.there c.args.rule in
    (λ t. told.0 (c.asks.ensures.0 t), λ k. c.asks.ensures.1 (told.1 k))
