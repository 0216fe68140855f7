use Rattle.std.proofs.Common.{◌∙◌, arith}
use Rattle.zpairs.specs.Blocks.{block_ends}
use Rattle.zpairs.proofs.Hulls.{one_more_end, all_below}
use Rattle.zpairs.proofs.Regrouped.{blocks_are_all}
use Rattle.zpairs.proofs.properties.Properties.all_ends.Goals as goal

pub loop-block-preserved : goal.loop-block-preserved
loop-block-preserved g c =
    one_more_end c.loop-block.block (block_ends g.V.Domain.operations c.args.self.now c.args.question c.args.objects c.args.numbers) c.loop-block.ends c.block_ends.result c.join-ends.result c.loop-block.invariant c.block_ends.ensures c.join-ends.ensures

pub returns : goal.returns
returns g c =
    let count = c.block_count-block-end.result in
    let last = c.loop-block-test.false in
    let most = c.loop-block.auto.block-end in
    all_below c.loop-block.block count (block_ends g.V.Domain.operations c.args.self.now c.args.question c.args.objects c.args.numbers) c.loop-block.ends (omega (arith, last, most)) c.loop-block.invariant
    ∙ blocks_are_all g.V.Domain.operations g.met.V.Domain.sound c.args.self.now c.args.question c.args.objects c.args.numbers count c.block_count-block-end.ensures.all
