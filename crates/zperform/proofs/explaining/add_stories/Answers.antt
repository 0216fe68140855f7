use Rattle.zperform.specs.Finding.{objects_of_stories}
use Rattle.zperform.proofs.Joined.{joined}
use Rattle.zperform.proofs.explaining.add_stories.Goals as goal

pub returns : goal.returns
unfolding objects_of_stories
returns c = joined _ _ _ _ _ c.in_ok-add_objects.ensures c.in_ok-add_objects-2.ensures c.in_ok-add_objects-3.ensures c.in_ok-add_objects-4.ensures
