use Rattle.std.proofs.Common.{ap, reverse, sym, ◌∙◌}
use Rattle.zfault.specs.Items.{GivenOut, text_of}
use Rattle.zfault.proofs.ItemLemmas.{text_of-items}
use Rattle.zfault.proofs.items.Items.text.Goals as goal

pub returns : goal.returns
returns c = c.as_slice.ensures.value ∙ sym (text_of-items _ (reverse c.self.inside.marks.items)) ∙ ap (λ (g : GivenOut). text_of g.items) c.self.view_is
