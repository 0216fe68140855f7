use Rattle.std.proofs.Common.{◌≡◌, ◌+◌, ℕ, ◌<◌, ◌/◌, ◌%◌, None, length}
use Rattle.std.specs.Prelude.{slice_index_or}
use Rattle.zobj.specs.Properties.{property_of}
use Rattle.zpairs.specs.Rows.{IsObjectRow}
use Rattle.zpairs.proofs.rows.find_properties.Given as goal

abbrev pub invariant-loop-k : goal.invariant-loop-k
invariant-loop-k l = record {
  long : length l.found ≡ 8448;
  same : (l.k % 33 ≡ 0 → ⊥) → IsObjectRow l.story (l.k / 33) l.row;
  made : (j : ℕ) → j < l.k → slice_index_or l.found j None ≡ property_of l.story.memory (j / 33 + 1) (j % 33);
}
