use Rattle.std.proofs.Common.{◌∙◌, ap, get_or, sym}
use Rattle.zfront.specs.Frames.{Frame, behind_byte}
use Rattle.zfront.proofs.Framed.{frame_more, inside_begins, none_more}
use Rattle.zfront.proofs.framing.Framing.read.Goals as goal

pub returns-then-is_outside-clause-none : goal.returns-then-is_outside-clause-none
returns-then-is_outside-clause-none c = none_more _ _ _ c.loop-at.at c.loop-at-test.true c.loop-at.invariant.frame c.loop-at.invariant.none c.loop-at.invariant.begins

pub returns-then-is_outside-clause-frame : goal.returns-then-is_outside-clause-frame
returns-then-is_outside-clause-frame c =
    c.take.ensures ∙ ap (λ (frame : Frame). behind_byte frame (get_or c.args.piece.now c.loop-at.at 0)) c.loop-at.invariant.frame ∙ sym (frame_more c.args.self.now c.args.piece.now c.loop-at.at c.loop-at-test.true)

pub loop-at-preserved : goal.loop-at-preserved
loop-at-preserved c = record {
  frame = c.take.ensures ∙ ap (λ (frame : Frame). behind_byte frame (get_or c.args.piece.now c.loop-at.at 0)) c.loop-at.invariant.frame ∙ sym (frame_more c.args.self.now c.args.piece.now c.loop-at.at c.loop-at-test.true);
  none = none_more _ _ _ c.loop-at.at c.loop-at-test.true c.loop-at.invariant.frame c.loop-at.invariant.none c.loop-at.invariant.begins;
  begins = inside_begins c.take.new.self _ (sym c.is_outside.ensures ∙ c.if-is_outside.false);
}
