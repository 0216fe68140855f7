use Rattle.std.proofs.Common.{subst, ◌/◌}
use Rattle.std.specs.Prelude.{IfSome}
use Rattle.zrule.specs.Blocks.{AreBlocks}
use Rattle.zrule.specs.Claims.{claims_of}
use Rattle.zrule.proofs.Together.{block_there}
use Rattle.zrule.proofs.site.Site.block_at.Goals as goal

pub returns-in-Some-clause-told : goal.returns-in-Some-clause-told
returns-in-Some-clause-told g c =
    let claims = claims_of g.V.Domain.operations c.args.self.certificate.now in
    block_there g.V.Domain.operations claims c.args.self.story.now 64 (c.args.packed / 64) c.in-Some.blocks.now.0 c.args.packed c.beginning_at.result (subst (λ o. IfSome o (λ b. AreBlocks g.V.Domain.operations claims c.args.self.story.now b.now)) c.in-Some.is c.requires).0 c.beginning_at.ensures
