use Rattle.std.proofs.Common.{◌+◌, ◌-◌, sym, rules, arith}
use Rattle.zobj.proofs.Rows.{answer_zero, answer_full, answer_absent, answer_sibling, answer_later}
use Rattle.zobj.proofs.moves.elder.Goals as goal

pub returns-then-number-eq0-clause-value : goal.returns-then-number-eq0-clause-value
returns-then-number-eq0-clause-value c =
    sym (answer_zero c.args.objects c.args.memory.now c.args.object (c.args.objects - c.loop.counter) c.loop.number _ c.loop.invariant (omega arith))

pub returns-then-number-objects-clause-value : goal.returns-then-number-objects-clause-value
returns-then-number-objects-clause-value c =
    sym (answer_absent c.args.objects c.args.memory.now c.args.object (c.args.objects - c.loop.counter) c.loop.number _ c.loop.invariant (omega arith) (omega arith) (omega arith))

pub returns-then-next-object-clause-value : goal.returns-then-next-object-clause-value
returns-then-next-object-clause-value c =
    sym (answer_sibling c.args.objects c.args.memory.now c.args.object (c.args.objects - c.loop.counter) c.loop.number _ c.loop.invariant (omega arith) (omega arith) (omega arith) (search rules))

pub loop-preserved : goal.loop-preserved
loop-preserved c =
    answer_later c.args.objects c.args.memory.now c.args.object (c.args.objects - c.loop.counter) c.loop.number _ c.loop.invariant (omega arith) (omega arith) (omega arith) (search rules) c.linked-next.result c.linked-next.ensures (c.args.objects - (c.loop.counter + 1)) (omega arith)

pub returns-clause-value : goal.returns-clause-value
returns-clause-value c =
    sym (answer_full c.args.objects c.args.memory.now c.args.object (c.args.objects - c.loop.counter) c.loop.number _ c.loop.invariant (omega arith))
