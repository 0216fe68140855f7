use Rattle.std.proofs.Common.{rules}
use Rattle.zinfo.proofs.Followed.{marked_grows, marked_sound}
use Rattle.zinfo.proofs.walk.Walk.mark_inside.Goals as goal

pub returns-in_ok-push-clause-grows : goal.returns-in_ok-push-clause-grows
returns-in_ok-push-clause-grows c =
    marked_grows c.args.self.now _ _ c.args.address (search rules) (search rules) (search rules) (search rules)

pub returns-in_ok-push-clause-sound : goal.returns-in_ok-push-clause-sound
returns-in_ok-push-clause-sound c = λ story so sound.
    marked_sound c.args.self.now _ _ c.args.address story (search rules) (search rules) so sound
