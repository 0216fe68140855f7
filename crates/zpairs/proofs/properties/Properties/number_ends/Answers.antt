use Rattle.std.proofs.Common.{arith}
use Rattle.zpairs.specs.Pairs.{pair_ends}
use Rattle.zpairs.proofs.Hulls.{all_below}
use Rattle.zpairs.proofs.properties.Properties.number_ends.Goals as goal

pub returns : goal.returns
returns g c =
    let last = c.loop-number-test.false in
    let most = c.loop-number.auto.number-end in
    all_below c.loop-number.number 33 (pair_ends g.V.Domain.operations c.args.self.now c.args.question c.args.numbers c.args.object) c.loop-number.ends (omega (arith, last, most)) c.loop-number.invariant
