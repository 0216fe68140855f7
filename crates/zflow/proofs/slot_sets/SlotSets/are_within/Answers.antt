use Rattle.std.proofs.Common.{reverse}
use Rattle.zdomain.specs.Domain.{Within}
use Rattle.zflow.specs.Lent.{on_top}
use Rattle.zflow.proofs.Slots.{zip_turned}
use Rattle.zflow.proofs.slot_sets.SlotSets.are_within.Goals as goal

pub returns : goal.returns
returns g c =
    let sets = c.args.self.now in
    let given = c.in-Some.ensures (on_top sets.pushed (on_top sets.replaced (reverse sets.lent.now))) in
    let top = c.in-Some-below.ensures (on_top sets.replaced (reverse sets.lent.now)) in
    let next = c.in-Some-below-2.ensures (reverse sets.lent.now) in
    let rest = zip_turned (Within g.V.Domain.operations) sets.lent.now c.in-Some-below-2.below_replaced.now in
    (λ t. given.1 (top.1 (next.1 (rest.0 (c.each_within.ensures.0 t)))), λ z. c.each_within.ensures.1 (rest.1 (next.0 (top.0 (given.0 z)))))
