use Rattle.std.proofs.Common.{ℕ, ◌-◌, List, ap, refl, reverse, sym, ◌∙◌, arith}
use Rattle.std.specs.Vec.{vec_capacity, vec_len}
use Rattle.std.proofs.lemmas.Bool.{ltb-false, ltb-true}
use Rattle.zfault.specs.Items.{GivenOut, items_of}
use Rattle.zfault.proofs.ItemLemmas.{is_room, no_room, reserved, taken}
use Rattle.zfault.proofs.items.Items.reserve_text.Goals as goal

pub returns-then-refuses-clause-err : goal.returns-then-refuses-clause-err
returns-then-refuses-clause-err c =
    let old = ap (λ (g : GivenOut). g.items) c.self.view_is in
    let told = c.refuses.ensures.refused c.if-refuses.true in
    let above = ltb-true _ _ told.0 in
    let none = no_room c.self.inside.text.items (reverse c.self.inside.marks.items) _ c.args.count c.self.inside.most c.self.inside.text_most (vec_capacity c.self.inside.text - vec_len c.self.inside.text) refl c.self.invariant.1 (omega (arith, above, c.saturating_sub-left.ensures, c.len.ensures, c.self.inside.text.ok.0)) (λ nothing. told.1.1 (sym old ∙ nothing)) in
    omega (arith, none, ap (λ (g : GivenOut). g.room) c.self.view_is)

pub returns-clause-ok : goal.returns-clause-ok
returns-clause-ok c =
    let old = ap (λ (g : GivenOut). g.items) c.self.view_is in
    let fits = taken c.self.inside.text.items (reverse c.self.inside.marks.items) c.args.self.now.items c.args.count c.self.inside.most c.self.inside.text_most _ old c.self.invariant.1 (λ within. (let below = ltb-false _ _ within in omega (arith, below, c.saturating_sub-left.ensures, c.len.ensures, c.self.inside.text.ok.0))) (c.refuses.ensures.taken c.if-refuses.false) in
    let same = ap (λ (l : List ℕ). items_of l (reverse c.self.inside.marks.items)) c.reserve.ensures.items ∙ old in
    reserved c.reserve.result _ _ c.reserve.ensures.ok (λ has. rw same (is_room c.args.self.now.items c.args.count c.self.inside.most (vec_capacity c.reserve.new.self - vec_len c.reserve.new.self) (omega (arith, has)) fits))
