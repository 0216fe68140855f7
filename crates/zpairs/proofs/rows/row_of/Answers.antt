use Rattle.std.proofs.Common.{◌+◌, arith, rules}
use Rattle.zpairs.proofs.ByNumber.{none_yet, one_further, row_whole}
use Rattle.zpairs.proofs.rows.row_of.Goals as goal

pub loop-property-init : goal.loop-property-init
loop-property-init c = record { so_far = λ n below. none_yet n _ below }

pub loop-property-preserved : goal.loop-property-preserved
loop-property-preserved c =
    let place = c.from.ensures in
    let size = c.from-in-Some.ensures in
    record { so_far = one_further c.args.memory.now c.args.first c.loop-property.at c.in-Some.property c.in-Some.ensures.value (c.from.result + c.from-in-Some.result) (omega (arith, place, size)) c.loop-property.row c.keep_first.new.row c.keep_first.ensures c.loop-property.invariant.so_far }

pub returns : goal.returns
returns c = row_whole c.args.memory.now c.args.first c.loop-property.at c.loop-property.row (search rules) c.loop-property.invariant.so_far
