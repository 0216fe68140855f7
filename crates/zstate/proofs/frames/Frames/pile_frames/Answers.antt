use Rattle.std.proofs.Common.{◌∙◌, ap, subst, sym, List}
use Rattle.std.specs.Prelude.{map}
use Rattle.std.specs.List.{AllByRecursion}
use Rattle.zquetzal.specs.Saved.{Frame, IsFrame}
use Rattle.zquetzal.specs.View.{frames_left, seen_frame}
use Rattle.zstate.specs.Packed.{piled}
use Rattle.zstate.specs.Saves.{taken_frame}
use Rattle.zstate.proofs.Piles.{piled_none, piled_on}
use Rattle.zstate.proofs.frames.Frames.pile_frames.Goals as goal

pub loop-frame-preserved : goal.loop-frame-preserved
loop-frame-preserved c =
    let step = c.in-Some.ensures.steps in
    let frames = subst (λ (fs : List Frame). AllByRecursion IsFrame fs) step c.loop-frame.invariant.frames in
    record {
      so_far = piled_on (seen_frame c.in-Some.frame) c.loop-frame.self (frames_left c.next.new.self) c.begin_saved.new.self c.pile_words.new.self c.in_ok-begin_saved.ensures c.in_ok-pile_words.ensures
          ∙ ap (λ (fs : List Frame). piled (map taken_frame fs) c.loop-frame.self) (sym step) ∙ c.loop-frame.invariant.so_far;
      frames = frames.1;
    }

pub returns : goal.returns
returns c = sym (piled_none (frames_left c.loop-frame.left) c.loop-frame.self c.in_default.ensures.steps.0) ∙ c.loop-frame.invariant.so_far
