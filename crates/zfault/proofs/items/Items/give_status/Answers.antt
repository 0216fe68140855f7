use Rattle.std.proofs.Common.{List, ap, reverse, ◌∙◌, arith}
use Rattle.std.proofs.lemmas.Bool.{ltb-false}
use Rattle.std.proofs.lemmas.List.{reverse-append}
use Rattle.zfault.specs.declared.items.Mark.{Mark}
use Rattle.zfault.specs.Items.{GivenOut}
use Rattle.zfault.proofs.ItemLemmas.{bounded-line, taken}
use Rattle.zfault.proofs.items.Items.give_status.Goals as goal

pub returns-clause-bounded : goal.returns-clause-bounded
returns-clause-bounded c =
    let old = ap (λ (g : GivenOut). g.items) c.self.view_is in
    let fits = taken c.self.inside.text.items (reverse c.self.inside.marks.items) c.args.self.now.items c.size_of_line-size.result c.self.inside.most c.self.inside.text_most _ old c.self.invariant.1 (λ within. (let below = ltb-false _ _ within in omega (arith, below, c.saturating_sub-left.ensures, c.len-place.ensures, c.self.inside.text.ok.0))) (c.refuses.ensures.taken c.if-refuses.false) in
    let lines = ap (λ (l : List Mark). reverse l) c.in_ok-push.ensures.items ∙ reverse-append c.self.inside.marks.items _ in
    (ap (λ (g : GivenOut). g.most) c.self.view_is, rw lines (bounded-line c.self.inside.text.items (reverse c.self.inside.marks.items) _ c.args.self.now.items c.size_of_line-size.result c.self.inside.most old c.size_of_line-size.ensures fits))
