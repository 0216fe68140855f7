use Rattle.std.proofs.Common.{◌↔◌, IsTrue, subst, sym}
use Rattle.zpairs.specs.Frozen.{frozen_by}
use Rattle.zflow.specs.declared.parts.Access.{Access}
use Rattle.zrule.specs.Rules.{AreWritten}
use Rattle.zrule.proofs.arrays.are_written.Goals as goal

pub returns-in-Writing : goal.returns-in-Writing
returns-in-Writing g c = subst (λ (access : Access). IsTrue c.are_open.result ↔ AreWritten g.V.Domain.operations c.args.runs.now.story (frozen_by c.args.runs.now.ranges) access c.args.elements.width c.args.elements.arrays c.args.elements.indices) (sym c.in-Writing.is) c.are_open.ensures
