use Rattle.std.proofs.Common.{rules}
use Rattle.zlist.proofs.Marking.{marked_grows, marked_sound}
use Rattle.zlist.proofs.walk.Walk.mark_inside.Goals as goal

pub returns-in_ok-push-clause-grows : goal.returns-in_ok-push-clause-grows
returns-in_ok-push-clause-grows c =
    marked_grows c.args.self.now _ _ _ _ _ _ c.args.address c.label_at-before.result c.args.label c.joined-label.result (search rules) (search rules) (search rules) (search rules) (search rules) (search rules) (search rules) (search rules) (search rules) (search rules)

pub returns-in_ok-push-clause-sound : goal.returns-in_ok-push-clause-sound
returns-in_ok-push-clause-sound c = λ story so sound.
    marked_sound story c.args.self.now _ _ _ _ _ _ c.args.address c.label_at-before.result c.args.label c.joined-label.result (search rules) (search rules) (search rules) (search rules) (search rules) (search rules) (search rules) (search rules) (search rules) (search rules) so sound
