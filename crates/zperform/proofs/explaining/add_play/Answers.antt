use Rattle.zperform.specs.Finding.{objects_of_play}
use Rattle.zperform.proofs.Joined.{joined_with}
use Rattle.zperform.proofs.explaining.add_play.Goals as goal

pub returns : goal.returns
unfolding objects_of_play
returns c = joined_with _ _ _ _ _ _ c.in_ok-add_objects.ensures c.in_ok-add_objects-2.ensures c.in_ok-add_objects-3.ensures c.in_ok-add_objects-4.ensures c.in_ok-add_objects-5.ensures
