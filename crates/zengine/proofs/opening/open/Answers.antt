use Rattle.std.proofs.lemmas.Result.{IfOk-weaker}
use Rattle.zengine.proofs.Opens.{opens}
use Rattle.zengine.proofs.opening.open.Goals as goal

pub returns : goal.returns
returns c = IfOk-weaker c.with_one_frame.result _ _ (λ b one. opens c.args.story.now c.args.first b one) c.with_one_frame.ensures
