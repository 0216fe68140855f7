use Rattle.std.proofs.Common.{◌≡◌, rules, subst}
use Rattle.std.specs.Prelude.{ℤ, pos}
use Rattle.zinfo.specs.Unplayed.{IsReached}
use Rattle.zinfo.proofs.walk.Walk.mark.Goals as goal

pub returns-in_ok-mark_inside-in-Ok-clause-sound : goal.returns-in_ok-mark_inside-in-Ok-clause-sound
returns-in_ok-mark_inside-in-Ok-clause-sound c = λ story it sound.
    let at : c.args.at ≡ pos c.in-Ok.address = search rules in
    c.in_ok-mark_inside-in-Ok.ensures.sound story (subst (λ (p : ℤ). IsReached story p) at it) sound
