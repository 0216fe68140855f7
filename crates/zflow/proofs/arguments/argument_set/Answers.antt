use Rattle.zcode.specs.Operation.{inputs}
use Rattle.zflow.specs.Kept.{shape_of}
use Rattle.zflow.specs.Lent.{globals_seen}
use Rattle.zflow.proofs.Counted.{argument_at, argument_past}
use Rattle.zflow.proofs.arguments.argument_set.Goals as goal

pub returns-then-index-saturating_sub : goal.returns-then-index-saturating_sub
returns-then-index-saturating_sub g c =
    argument_at g.V.Domain.operations (globals_seen c.args.globals) (shape_of c.args.locals.now c.args.slots.now) (inputs c.args.instruction.now) c.as_slice-operands.result.now c.inputs-inputs.result.items c.inputs-inputs.ensures.few c.inputs-inputs.ensures.value c.as_slice-operands.ensures.value c.saturating_sub.result c.args.index c.saturating_sub.ensures
    c.set_at.result c.if-index-saturating_sub.true c.set_at.ensures

pub returns-else-index-saturating_sub : goal.returns-else-index-saturating_sub
returns-else-index-saturating_sub g c =
    argument_past g.V.Domain.operations (globals_seen c.args.globals) (shape_of c.args.locals.now c.args.slots.now) (inputs c.args.instruction.now) c.as_slice-operands.result.now c.inputs-inputs.result.items c.inputs-inputs.ensures.few c.inputs-inputs.ensures.value c.as_slice-operands.ensures.value c.saturating_sub.result c.args.index c.saturating_sub.ensures
    c.if-index-saturating_sub.false
