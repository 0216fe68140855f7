use Rattle.std.proofs.Common.{◌∙◌, sym}
use Rattle.zflow.specs.Lent.{globals_seen}
use Rattle.zflow.proofs.Changes.{missing}
use Rattle.zflow.proofs.view.View.global_set.Goals as goal

pub returns-in-None : goal.returns-in-None
returns-in-None g c = c.any.ensures ∙ sym (missing (globals_seen c.args.self.globals) c.args.index g.V.Domain.operations.any (sym c.in-None.ensures))
