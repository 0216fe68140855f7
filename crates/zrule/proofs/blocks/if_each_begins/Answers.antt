use Rattle.std.proofs.Common.{rules, arith, ◌≤◌}
use Rattle.zstate.specs.Step.{unpacked}
use Rattle.zrule.specs.Blocks.{sets_of}
use Rattle.zrule.specs.Claims.{claims_of}
use Rattle.zrule.specs.Rules.{Begins}
use Rattle.zrule.proofs.Together.{one_further}
use Rattle.zrule.proofs.blocks.if_each_begins.Goals as goal

pub loop-offset-preserved : goal.loop-offset-preserved
loop-offset-preserved g c = one_further (λ x. Begins g.V.Domain.operations (claims_of g.V.Domain.operations c.args.certificate.now) c.args.story.now (sets_of c.args.arguments) (unpacked x)) c.args.base c.loop-offset.offset c.loop-offset.invariant (c.begins.ensures.0 (search rules))

pub returns : goal.returns
returns g c =
    let end : c.args.count ≤ c.loop-offset.offset = search (rules, arith) in
    λ x above below. c.loop-offset.invariant x above (omega (arith, below, end))
