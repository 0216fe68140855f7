use Rattle.std.proofs.Common.{◌≡◌, ◌++◌, rules}
use Rattle.zcert.proofs.Pieces.{for_err, on_ok, more_kept}
use Rattle.zcert.proofs.reader.Reader.complete.Goals as goal

pub returns-clause-led : goal.returns-clause-led
returns-clause-led g c =
    let kept = c.args.self.now.kept.items in
    let front = c.args.front.now in
    let whole : c.as_slice.result.now ≡ kept ++ front = search rules in
    on_ok _ _ c.step.result (λ h fed led. h (fed ++ front) (more_kept g.V.Spelled.format _ _ fed _ kept front c.as_slice.result.now whole led)) c.step.ensures.led

pub returns-clause-refused : goal.returns-clause-refused
returns-clause-refused g c =
    let kept = c.args.self.now.kept.items in
    let front = c.args.front.now in
    let whole : c.as_slice.result.now ≡ kept ++ front = search rules in
    for_err _ _ c.step.result (λ e h fed led. h (fed ++ front) (more_kept g.V.Spelled.format _ _ fed _ kept front c.as_slice.result.now whole led)) c.step.ensures.refused
