-- Places that a certificate says stay as they are (own).
use Rattle.std.specs.Prelude.{◌≡◌, ℕ, ◌<◌, ◌&&◌, Bool, List, nat_le}
use Rattle.std.specs.List.{list_any}
use Rattle.zstory.specs.LoadedStory.{LoadedStory}
use Rattle.zcert.specs.declared.parts.Range.{Range}
use Rattle.zdomain.specs.Marks.{is_marked}

-- the place lies in the range, both ends included
abbrev pub is_inside : ℕ → Range → Bool
is_inside p range = nat_le range.first p && nat_le p range.last

-- it lies in one of the ranges
abbrev pub frozen_by : List Range → ℕ → Bool
frozen_by ranges p = list_any (is_inside p) ranges

-- marks tell of each place that ranges reach whether it lies in one
pub record AreMarked (ranges : List Range) (marks : List ℕ) : Type 0 where
  pub each : (p : ℕ) → p < 65536 → is_marked marks p ≡ frozen_by ranges p

-- a story as it was loaded, and the ranges of places that stay so
pub record FrozenStory : Type 0 where
  pub story : LoadedStory
  pub ranges : List Range

abbrev pub told_by : LoadedStory → List Range → FrozenStory
told_by story ranges = record { story = story; ranges = ranges }
