use Rattle.zquetzal.specs.View.{seen_frame}
use Rattle.zmachine.proofs.Backs.{back_found}
use Rattle.zmachine.proofs.resuming.back_of.Goals as goal

pub returns-clause-back : goal.returns-clause-back
returns-clause-back g c = back_found c.args.story.now (g.R.Rows.game c.row_anew.new.self) (g.R.Rows.all c.row_anew.new.self) _ _ _ (seen_frame c.args.frame.now) _ _ _ c.spot_of.ensures c.landed-came.ensures.height c.landed-came.ensures.lands c.row_anew.ensures.found
