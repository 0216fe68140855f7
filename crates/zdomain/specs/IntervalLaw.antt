-- What an operation on intervals answers contains what it has to. The modules below are parts of the proof, and nothing to
-- believe.
pub mod Lying
pub mod Products
pub mod Quotients
pub mod Remainders
pub mod Bits
pub mod Results
pub mod Edges
use Rattle.zdomain.specs.Domain.{AreSound}
use Rattle.zdomain.specs.Interval.{interval_operations}
use Rattle.zdomain.specs.IntervalLaw.Lying.{any_has, between_has, packed_has, highest_has, lowest_has, point_has}
use Rattle.zdomain.specs.IntervalLaw.Results.{unary_has, binary_has}
use Rattle.zdomain.specs.IntervalLaw.Edges.{join_left, join_right, meet_has, known_has, known_single, narrow_has}

pub interval_sound : AreSound interval_operations
interval_sound = record {
  single = point_has;
  any = any_has;
  between = between_has;
  lowest = lowest_has;
  highest = highest_has;
  known = known_has;
  known_single = known_single;
  few = λ i words x is. absurd cc;
  packed = packed_has;
  join_left = join_left;
  join_right = join_right;
  meet = meet_has;
  unary = unary_has;
  binary = λ op a b x y i j defined. binary_has op a b x y i j;
  narrow = narrow_has;
}
