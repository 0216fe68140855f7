use Rattle.zstate.specs.Step.{unpacked}
use Rattle.zrule.specs.Blocks.{sets_of}
use Rattle.zrule.proofs.Together.{begins_narrower}
use Rattle.zrule.proofs.blocks.Block.begins_with.Goals as goal

pub returns-in-Some : goal.returns-in-Some
returns-in-Some g c = λ claims story count base yes is x above below.
    begins_narrower g.V.Domain.operations claims story (sets_of c.args.arguments) (sets_of c.in-Some.wide) (unpacked x) (c.are_within.ensures.0 yes) (c.in-Some.ensures claims story count base is x above below)
