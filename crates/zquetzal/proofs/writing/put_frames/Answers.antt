use Rattle.std.proofs.Common.{◌≡◌, ℕ, suc, ◌+◌, ◌++◌, List, take, sym, ap, ◌∙◌, append_assoc, arith}
use Rattle.zquetzal.specs.Grammar.{frame_bytes, frames_bytes}
use Rattle.zquetzal.specs.View.{given_frame}
use Rattle.zquetzal.proofs.Saves.{length-frame_bytes}
use Rattle.zquetzal.proofs.Written.{frames_more, frames_room, frames_longer}
use Rattle.zquetzal.proofs.writing.put_frames.Goals as goal

pub put_frame-requires-clause-room : goal.put_frame-requires-clause-room
put_frame-requires-clause-room g c =
    let room = frames_room (g.S.SaveParts.saved c.args.parts.now).frames c.loop-number.number (given_frame c.frame.result) c.frame.ensures.value in
    omega (arith, room, c.loop-number.invariant.len, c.loop-number.invariant.room, c.requires)

pub loop-number-preserved : goal.loop-number-preserved
loop-number-preserved g c =
    let fs = (g.S.SaveParts.saved c.args.parts.now).frames in
    let k = c.loop-number.number in
    let f = given_frame c.frame.result in
    let old = c.args.out.now.items in
    let next : suc k ≡ k + 1 = omega arith in
    let longer = frames_longer fs k f c.frame.ensures.value in
    let long = length-frame_bytes f in
    record {
      items = c.put_frame.ensures.items
          ∙ ap (λ (t : List ℕ). t ++ frame_bytes f) c.loop-number.invariant.items
          ∙ append_assoc old (frames_bytes (take k fs)) (frame_bytes f)
          ∙ ap (λ (t : List ℕ). old ++ t) (sym (frames_more fs k f c.frame.ensures.value))
          ∙ ap (λ (n : ℕ). old ++ frames_bytes (take n fs)) next;
      len = omega (arith, longer, long, c.put_frame.ensures.len, c.loop-number.invariant.len);
      room = omega (arith, c.put_frame.ensures.room, c.loop-number.invariant.room);
    }
