use Rattle.zcheck.proofs.Heads.{heads_told}
use Rattle.zcheck.proofs.story_rules.has_heads.Goals as goal

pub returns : goal.returns
returns g c = heads_told c.args.story.now _ _ c.routines.ensures.value c.has_each_head.ensures
