use Rattle.zrule.specs.Claims.{claims_of}
use Rattle.zrule.proofs.blocks.block_from.Goals as goal

pub returns-then-is_none : goal.returns-then-is_none
returns-then-is_none g c = c.nothing_known.ensures (claims_of g.V.Domain.operations c.args.certificate.now) c.args.story.now c.args.count c.args.base
