use Rattle.std.proofs.Common.{arith}
use Rattle.zpairs.specs.Blocks.{place_ends}
use Rattle.zpairs.proofs.Hulls.{one_more_end, all_below}
use Rattle.zpairs.proofs.properties.Properties.some_ends.Goals as goal

pub loop-place-preserved : goal.loop-place-preserved
loop-place-preserved g c =
    one_more_end c.loop-place.place (place_ends g.V.Domain.operations c.args.self.now c.args.question c.args.objects c.args.numbers c.args.block) c.loop-place.ends c.place_ends.result c.join-ends.result c.loop-place.invariant c.place_ends.ensures c.join-ends.ensures

pub returns : goal.returns
returns g c =
    let last = c.loop-place-test.false in
    let most = c.loop-place.auto.place-end in
    all_below c.loop-place.place 16 (place_ends g.V.Domain.operations c.args.self.now c.args.question c.args.objects c.args.numbers c.args.block) c.loop-place.ends (omega (arith, last, most)) c.loop-place.invariant
