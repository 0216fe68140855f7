use Rattle.std.proofs.Common.{◌-◌, ap, length, refl, reverse, sym, ◌∙◌, arith}
use Rattle.std.specs.Vec.{vec_capacity, vec_len}
use Rattle.std.proofs.lemmas.Bool.{ltb-false, ltb-true}
use Rattle.zfault.specs.Items.{GivenOut}
use Rattle.zfault.proofs.ItemLemmas.{StandWithin-grown, bounded-grown, items_of-grown, no_room, taken}
use Rattle.zfault.proofs.items.Items.give_text.Goals as goal

pub invariant_of-self : goal.invariant_of-self
invariant_of-self c = (StandWithin-grown c.extend_from_slice.result _ _ _ _ c.self.invariant.0 c.extend_from_slice.ensures.items, c.self.invariant.1)

pub returns-clause-ok : goal.returns-clause-ok
returns-clause-ok c = items_of-grown c.extend_from_slice.result _ _ _ _ _ c.self.invariant.0 (ap (λ (g : GivenOut). g.items) c.self.view_is) c.extend_from_slice.ensures.items

pub returns-clause-bounded : goal.returns-clause-bounded
returns-clause-bounded c =
    let old = ap (λ (g : GivenOut). g.items) c.self.view_is in
    let fits = taken c.self.inside.text.items (reverse c.self.inside.marks.items) c.args.self.now.items (length c.args.bytes.now) c.self.inside.most c.self.inside.text_most _ old c.self.invariant.1 (λ within. (let below = ltb-false _ _ within in omega (arith, below, c.as_slice.ensures.len))) (c.refuses.ensures.taken c.if-refuses.false) in
    (ap (λ (g : GivenOut). g.most) c.self.view_is, bounded-grown c.extend_from_slice.result c.self.inside.text.items _ c.args.bytes.now (reverse c.self.inside.marks.items) c.args.self.now.items c.self.inside.most old c.extend_from_slice.ensures.items fits)

pub returns-then-refuses-clause-err : goal.returns-then-refuses-clause-err
returns-then-refuses-clause-err c =
    let old = ap (λ (g : GivenOut). g.items) c.self.view_is in
    let told = c.refuses.ensures.refused c.if-refuses.true in
    let above = ltb-true _ _ told.0 in
    let none = no_room c.self.inside.text.items (reverse c.self.inside.marks.items) _ (length c.args.bytes.now) c.self.inside.most c.self.inside.text_most (vec_capacity c.self.inside.text - vec_len c.self.inside.text) refl c.self.invariant.1 (omega (arith, above, told.1.0, c.as_slice.ensures.len)) (λ nothing. told.1.1 (sym old ∙ nothing)) in
    omega (arith, none, ap (λ (g : GivenOut). g.room) c.self.view_is)
