use Rattle.std.proofs.Common.{◌≡◌, ◌<◌, ◌-◌, ℕ, None, length}
use Rattle.std.specs.Prelude.{slice_index_or}
use Rattle.std.specs.List.{find}
use Rattle.zobj.specs.Properties.{properties_from, has_number}
use Rattle.zpairs.specs.Rows.{first_of}
use Rattle.zpairs.proofs.rows.row_of.Given as goal

abbrev pub invariant-loop-property : goal.invariant-loop-property
invariant-loop-property l = record {
  so_far : (n : ℕ) → n < 33 → first_of (slice_index_or l.row n None) (find (has_number n) (properties_from l.memory l.at)) ≡ find (has_number n) (properties_from l.memory l.first);
}

abbrev pub decreases-loop-property : goal.decreases-loop-property
decreases-loop-property l = length l.memory - l.at
