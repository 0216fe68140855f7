use Rattle.std.proofs.Common.{◌∙◌}
use Rattle.zflow.proofs.Slots.{reverse-set_top}
use Rattle.zflow.proofs.slot_sets.SlotSets.topped.Goals as goal

pub returns-in-len1-up-clause-sets : goal.returns-in-len1-up-clause-sets
returns-in-len1-up-clause-sets g c = c.of-in-len1-up.ensures.sets ∙ reverse-set_top c.args.lent.now c.args.set c.in-len1-up.len_at_least
