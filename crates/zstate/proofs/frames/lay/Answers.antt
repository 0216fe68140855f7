use Rattle.std.proofs.Common.{arith, ◌∙◌, ◌<◌, length}
use Rattle.zstate.specs.Step.{initial, laid_over}
use Rattle.zstate.proofs.Locals.{all_laid, length_locals, one_more}
use Rattle.zstate.proofs.frames.lay.Goals as goal

pub loop-number-preserved : goal.loop-number-preserved
loop-number-preserved c =
    let i = c.loop-number.invariant in
    let laid = laid_over c.args.arguments.now (initial c.args.memory.now c.args.routine) in
    let below : c.loop-number.number < length laid = omega (arith, c.loop-number-test.true, c.from-number-end.ensures, length_locals c.args.memory.now c.args.routine c.args.arguments.now) in
    record {
      so_far = c.push_reserved.ensures.items ∙ one_more c.loop-number.words.items c.args.words.now.items laid c.loop-number.number c.local_at.result below c.local_at.ensures i.so_far;
      room = omega (arith, i.room, c.push_reserved.ensures.len, c.push_reserved.ensures.capacity);
    }

pub returns : goal.returns
returns c =
    let last = c.loop-number-test.false in
    let most = c.loop-number.auto.number-end in
    record { laid = all_laid c.args.memory.now c.args.arguments.now c.loop-number.words.items c.args.words.now.items c.args.routine c.loop-number.number (omega (arith, c.from-number-end.ensures, last, most)) c.loop-number.invariant.so_far }
