use Rattle.std.proofs.lemmas.Int.{to_z-of_z}
use Rattle.std.specs.Int.{w16}
use Rattle.zdomain.proofs.Ends.{with_ends}
use Rattle.zdomain.proofs.interval.Interval.new.Goals as goal

pub returns-then-lo-hi-clause-made : goal.returns-then-lo-hi-clause-made
returns-then-lo-hi-clause-made c = with_ends _ _ _ (to_z-of_z w16 _ c.ranges.lo) (to_z-of_z w16 _ c.ranges.hi)
