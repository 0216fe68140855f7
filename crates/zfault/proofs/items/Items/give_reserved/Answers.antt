use Rattle.std.proofs.Common.{◌≤◌, ◌-◌, List, ap, length, reverse, arith}
use Rattle.std.specs.Vec.{vec_capacity, vec_len}
use Rattle.zfault.specs.declared.item.Item.{Item}
use Rattle.zfault.specs.Items.{GivenOut, room_beside}
use Rattle.zfault.proofs.ItemLemmas.{StandWithin-grown, bounded-grown, items_of-grown, roomy, unrefused}
use Rattle.zfault.proofs.items.Items.give_reserved.Goals as goal

pub invariant_of-self : goal.invariant_of-self
invariant_of-self c = (StandWithin-grown c.extend_from_slice.result _ _ _ _ c.self.invariant.0 c.extend_from_slice.ensures.items, c.self.invariant.1)

pub returns-clause-given : goal.returns-clause-given
returns-clause-given c = unrefused c.extend_from_slice.result c.if-is_err.ensures.value (items_of-grown c.extend_from_slice.result _ _ _ _ _ c.self.invariant.0 (ap (λ (g : GivenOut). g.items) c.self.view_is) c.extend_from_slice.ensures.items)

pub returns-clause-bounded : goal.returns-clause-bounded
returns-clause-bounded c =
    let old = ap (λ (g : GivenOut). g.items) c.self.view_is in
    let same = ap (λ (l : List Item). room_beside l (vec_capacity c.self.inside.text - vec_len c.self.inside.text) c.self.inside.most) old in
    let room : length c.args.bytes.now ≤ room_beside c.args.self.now.items (vec_capacity c.self.inside.text - vec_len c.self.inside.text) c.self.inside.most = omega (arith, c.requires, ap (λ (g : GivenOut). g.room) c.self.view_is, same) in
    (ap (λ (g : GivenOut). g.most) c.self.view_is, bounded-grown c.extend_from_slice.result c.self.inside.text.items _ c.args.bytes.now (reverse c.self.inside.marks.items) c.args.self.now.items c.self.inside.most old c.extend_from_slice.ensures.items (roomy c.args.self.now.items (length c.args.bytes.now) c.self.inside.most _ room))
