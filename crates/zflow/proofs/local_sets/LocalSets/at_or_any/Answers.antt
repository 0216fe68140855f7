use Rattle.std.proofs.Common.{rules, sym}
use Rattle.zflow.specs.Lent.{locals_seen}
use Rattle.zflow.proofs.Changes.{missing}
use Rattle.zflow.proofs.local_sets.LocalSets.at_or_any.Goals as goal

pub returns-in-None : goal.returns-in-None
returns-in-None g c = let gone = missing (locals_seen c.args.self.now) c.args.index g.V.Domain.operations.any (sym (rw c.in-None.is at c.at.ensures)) in search (rules, gone)
