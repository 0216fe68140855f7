use Rattle.std.proofs.Common.{length, ap, arith}
use Rattle.zquetzal.specs.View.{seen_frame}
use Rattle.zquetzal.proofs.Loops.{frames_step, frames_none}
use Rattle.zquetzal.proofs.frames.FramesIterator.next.Goals as goal

pub returns-in_default-clause-steps : goal.returns-in_default-clause-steps
returns-in_default-clause-steps c = let none = frames_none c.args.self.now.rest.now c.in_default.field-0 c.in_default.ensures.value in (none, none)

pub returns-clause-steps : goal.returns-clause-steps
returns-clause-steps c = frames_step c.args.self.now.rest.now (seen_frame c.in-Ok.frame, c.in-Ok.rest.now) c.in-Ok.ensures.value

pub returns-clause-goes : goal.returns-clause-goes
returns-clause-goes c =
    let step = frames_step c.args.self.now.rest.now (seen_frame c.in-Ok.frame, c.in-Ok.rest.now) c.in-Ok.ensures.value in
    record { on = λ finite. (tt, tt, omega (arith, ap length step)); keeps = tt; rests = λ finite. tt }
