use Rattle.std.proofs.Common.{◌≡◌, ◌≤◌, ◌+◌, ◌*◌, List, Some, None, length}
use Rattle.zunpack.specs.Packing.{Run, runs_of}
use Rattle.zunpack.specs.View.{told}
use Rattle.zunpack.proofs.memory.measured.Given as goal

abbrev pub invariant-loop-rest : goal.invariant-loop-rest
invariant-loop-rest l = record {
  bound : l.total + 256 * length l.rest ≤ 256 * length l.packed;
  so_far : l.total + length (told l.rest) ≡ length (told l.packed);
  none : runs_of l.rest ≡ None → runs_of l.packed ≡ None;
  some : ((runs : List Run) × (runs_of l.rest ≡ Some runs)) → (runs : List Run) × (runs_of l.packed ≡ Some runs);
}

abbrev pub decreases-loop-rest : goal.decreases-loop-rest
decreases-loop-rest l = length l.rest
