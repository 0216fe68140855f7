use Rattle.std.proofs.Common.{ap, sym, ◌∙◌}
use Rattle.zquetzal.specs.Reading.{are_frames}
use Rattle.zquetzal.specs.View.{seen_frame}
use Rattle.zquetzal.proofs.Loops.{frames_step, frames_none}
use Rattle.zquetzal.proofs.frames.begins_with_first.Goals as goal

pub returns-in-Ok : goal.returns-in-Ok
returns-in-Ok c = c.is_first.ensures ∙ sym (ap are_frames (frames_step c.args.stacks.now (seen_frame c.in-Ok.frame, c.in-Ok.field-0-1.now) c.in-Ok.ensures.value))

pub returns-in-Err : goal.returns-in-Err
returns-in-Err c = sym (ap are_frames (frames_none c.args.stacks.now c.in-Err.field-0 c.in-Err.ensures.value))
