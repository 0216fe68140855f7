use Rattle.std.proofs.Common.{ap, reverse}
use Rattle.zfault.specs.Items.{GivenOut}
use Rattle.zfault.proofs.ItemLemmas.{StandWithin-text, items_of-text}
use Rattle.zfault.proofs.items.Items.marks.Goals as goal

pub returns-clause-items : goal.returns-clause-items
returns-clause-items c = rw c.as_slice.ensures.value (items_of-text c.self.inside.text.items (reverse c.self.inside.marks.items) _ (ap (λ (g : GivenOut). g.items) c.self.view_is))

pub returns-clause-order : goal.returns-clause-order
returns-clause-order c = rw c.as_slice.ensures.value (StandWithin-text c.self.inside.text.items (reverse c.self.inside.marks.items) _ (ap (λ (g : GivenOut). g.items) c.self.view_is) c.self.invariant.0)
