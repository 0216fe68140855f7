use Rattle.std.proofs.Common.{◌∙◌, true, false}
use Rattle.zflow.specs.Kept.{shape_of}
use Rattle.zflow.specs.Lent.{globals_seen}
use Rattle.zflow.proofs.Answering.{demands_are, outcome_is, mid_is, behind_is}
use Rattle.zflow.proofs.flow.flow_of.Goals as goal

pub returns : goal.returns
returns g c =
    let o = g.V.Domain.operations in
    let globals = (globals_seen c.args.globals) in
    let told = c.args.tables.now in
    let i = c.args.instruction.now in
    let e = shape_of c.args.locals.now c.args.slots.now in
    let operands = c.as_slice-operands.ensures.value ∙ c.inputs-inputs.ensures.value in
    let popped = c.pops-popped.ensures in
    let read = c.read-first.ensures in
    let outcomes = c.outcomes_of-outcomes.ensures in
    let mid = mid_is o globals i c.args.locals.now c.args.slots.now c.below-left.result.now _ _ operands popped c.below-left.ensures.lasting in
    let held = c.edge_of.ensures in
    let failed = c.edge_of-2.ensures in
    record {
      popped = rw (← operands) popped;
      demands = demands_are o globals i e _ _ _ _ _ _ c.opcode.ensures c.operation-operation.ensures operands read.first read.second c.demands_of.ensures;
      held = record { outcome = held.outcome ∙ outcome_is o globals told i e _ _ _ _ _ _ _ _ true _ c.opcode.ensures c.operation-operation.ensures operands read.first read.second c.below.ensures.globals popped c.below.ensures.shape outcomes.held; lead = held.lead; behind = behind_is o globals i e _ _ mid held.after };
      failed = record { outcome = failed.outcome ∙ outcome_is o globals told i e _ _ _ _ _ _ _ _ false _ c.opcode.ensures c.operation-operation.ensures operands read.first read.second c.below.ensures.globals popped c.below.ensures.shape outcomes.failed; lead = failed.lead; behind = behind_is o globals i e _ _ mid failed.after };
    }
