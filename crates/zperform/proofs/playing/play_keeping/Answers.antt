use Rattle.std.proofs.Common.{rules}
use Rattle.zperform.proofs.PlayLemmas.{lent_out}
use Rattle.zperform.proofs.playing.play_keeping.Goals as goal

pub returns-clause-comes : goal.returns-clause-comes
returns-clause-comes g c =
    lent_out g.S.SaveStore.kept g.S.SaveStore.failures g.S.SaveStore.Follows (g.P.Playable.Comes c.args.playable.now c.args.asked.manner c.play.new.lenience.notes) c.play.result _ _ _ _ _ _ _ _ _ _ _ _ (search rules) (search rules) (search rules) (search rules) (search rules) (search rules) c.play.ensures.comes
