use Rattle.zperform.proofs.playing.JudgedPlayable.play.Goals as goal

pub returns-in-Whole-clause-comes : goal.returns-in-Whole-clause-comes
returns-in-Whole-clause-comes g c = rw c.in-Whole.is c.play.ensures.comes

pub returns-in-Marked-clause-comes : goal.returns-in-Marked-clause-comes
returns-in-Marked-clause-comes g c = rw c.in-Marked.is c.play-in-Marked.ensures.comes
