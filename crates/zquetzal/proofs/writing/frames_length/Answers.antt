use Rattle.std.proofs.Common.{arith}
use Rattle.zquetzal.specs.View.{given_frame}
use Rattle.zquetzal.proofs.Written.{frames_longer}
use Rattle.zquetzal.proofs.writing.frames_length.Goals as goal

pub loop-number-preserved : goal.loop-number-preserved
loop-number-preserved g c =
    let f = given_frame c.frame-frame.result in
    let more = frames_longer (g.S.SaveParts.saved c.args.parts.now).frames c.loop-number.number f c.frame-frame.ensures.value in
    record { value = omega (arith, more, c.loop-number.invariant.value); most = omega (arith, c.frame-frame.ensures.frame.locals, c.frame-frame.ensures.frame.stack, c.loop-number.invariant.most) }
