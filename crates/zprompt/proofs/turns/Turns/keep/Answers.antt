use Rattle.std.proofs.Common.{◌≡◌, rules, true}
use Rattle.zprompt.proofs.Kept.{push_kept}
use Rattle.zprompt.proofs.turns.Turns.keep.Goals as goal

pub returns-else-not-push-clause-all : goal.returns-else-not-push-clause-all
returns-else-not-push-clause-all g c =
    let pushed : c.push.result ≡ true = search rules in
    push_kept (g.M.Promptable.IsKept c.args.machine.now) _ _ _ c.in-Ok-Some.state c.requires c.make_room.ensures (c.push.ensures pushed) (rw c.in-Ok-Some.field-0-is at c.in-Ok-Some.ensures.state).1
