use Rattle.std.proofs.lemmas.List.Elements.{All-pop, All-weaker}
use Rattle.zprompt.proofs.turns.undo.Goals as goal

pub returns-in-Ok-clause-all : goal.returns-in-Ok-clause-all
returns-in-Ok-clause-all g c =
    let left = (All-pop (g.M.Promptable.IsKept c.args.machine.now) _ _ _ c.take.ensures.newest c.requires).0 in
    All-weaker (g.M.Promptable.IsKept c.args.machine.now) _ (g.met.M.Promptable.same_kept _ _ c.put_back.ensures.play) _ left

pub returns-clause-all : goal.returns-clause-all
returns-clause-all g c =
    let left = (All-pop (g.M.Promptable.IsKept c.args.machine.now) _ _ _ c.take.ensures.newest c.requires).0 in
    All-weaker (g.M.Promptable.IsKept c.args.machine.now) _ (g.met.M.Promptable.same_kept _ _ c.put_back.ensures.play) _ left
