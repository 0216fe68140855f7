use Rattle.std.proofs.Common.{ap, reverse, sym, ◌∙◌, arith}
use Rattle.std.proofs.lemmas.Bool.{eqb-false}
use Rattle.std.proofs.lemmas.List.{length-reverse}
use Rattle.zfault.specs.Items.{GivenOut}
use Rattle.zfault.proofs.ItemLemmas.{some_line, some_text}
use Rattle.zfault.proofs.items.Items.is_empty.Goals as goal

pub returns-then-is_empty-clause-held : goal.returns-then-is_empty-clause-held
returns-then-is_empty-clause-held c is =
    let some = eqb-false _ _ (sym c.is_empty-then-is_empty.ensures ∙ is) in
    some_line c.self.inside.text.items (reverse c.self.inside.marks.items) _ (ap (λ (g : GivenOut). g.items) c.self.view_is) (λ none. some (omega (arith, none, length-reverse c.self.inside.marks.items, c.self.inside.marks.ok.0)))

pub returns-else-is_empty-clause-held : goal.returns-else-is_empty-clause-held
returns-else-is_empty-clause-held c is =
    let some = eqb-false _ _ (sym c.is_empty.ensures ∙ is) in
    some_text c.self.inside.text.items (reverse c.self.inside.marks.items) _ (ap (λ (g : GivenOut). g.items) c.self.view_is) (λ none. some (omega (arith, none, c.self.inside.text.ok.0)))
