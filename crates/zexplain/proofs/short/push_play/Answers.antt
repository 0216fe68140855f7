use Rattle.zexplain.specs.Short.{codes_of_play}
use Rattle.zexplain.proofs.Joined.{joined_with}
use Rattle.zexplain.proofs.short.push_play.Goals as goal

pub returns : goal.returns
unfolding codes_of_play
returns c = joined_with _ _ _ _ _ _ c.in_ok-push_headings.ensures c.in_ok-push_headings-2.ensures c.in_ok-push_headings-3.ensures c.in_ok-push_headings-4.ensures c.in_ok-push_headings-5.ensures
