use Rattle.std.proofs.Common.{◌∙◌, sym}
use Rattle.zfront.proofs.Framed.{leaves_text}
use Rattle.zfront.proofs.frames.Frames.take.Goals as goal

pub returns-then-not-is_empty-clause-ok : goal.returns-then-not-is_empty-clause-ok
returns-then-not-is_empty-clause-ok g c =
    leaves_text _ _ _ c.args.piece.now c.text_length.result c.in_ok-count.count (sym c.is_outside.ensures ∙ c.if-is_outside.true) c.text_length.ensures.count c.in_ok-count.ensures.bound c.in_ok-count.ensures.bytes
