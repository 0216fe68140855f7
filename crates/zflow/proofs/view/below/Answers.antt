use Rattle.std.proofs.Common.{refl}
use Rattle.zflow.proofs.Slots.{reverse-take}
use Rattle.zflow.proofs.view.below.Goals as goal

pub returns-clause-lasting : goal.returns-clause-lasting
returns-clause-lasting g c = rw (c.saturating_sub.ensures, ← reverse-take c.args.slots.now c.args.count) refl
