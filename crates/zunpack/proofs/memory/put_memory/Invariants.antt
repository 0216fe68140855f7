use Rattle.std.proofs.Common.{◌≡◌, ◌≤◌, ◌+◌, ◌++◌, length, vec_len, vec_capacity}
use Rattle.zunpack.specs.Packing.{changed}
use Rattle.zunpack.specs.View.{told}
use Rattle.zunpack.proofs.memory.put_memory.Given as goal

abbrev pub invariant-loop-run : goal.invariant-loop-run
invariant-loop-run l = record {
  fits : length (told l.rest) ≤ length l.story;
  items : l.out.items ++ changed l.story (told l.rest) ≡ l.fn.out.items ++ changed l.dynamic (told l.packed);
  len : vec_len l.out + length l.story ≡ vec_len l.fn.out + length l.dynamic;
  room : vec_capacity l.fn.out ≤ vec_capacity l.out;
}

abbrev pub decreases-loop-run : goal.decreases-loop-run
decreases-loop-run l = length l.rest
