use Rattle.std.proofs.Common.{◌∙◌, ◌++◌, ◌∷◌, [], ℕ, ap}
use Rattle.zfront.specs.Frames.{cut}
use Rattle.zfront.specs.Headings.{printable}
use Rattle.zfront.proofs.Sides.{shown_more}
use Rattle.zfront.proofs.side.Side.printable.Goals as goal

pub loop-byte-preserved : goal.loop-byte-preserved
loop-byte-preserved c =
    shown_more printable c.bytes-byte-items.result.now c.loop-byte.shown c.push.new.self c.loop-byte.byte-index c.loop-byte-test.true c.bytes-byte-items.ensures.few c.loop-byte.invariant
    (c.push.ensures ∙ ap (λ (byte : ℕ). cut (c.loop-byte.shown ++ byte ∷ [])) c.printable.ensures)
