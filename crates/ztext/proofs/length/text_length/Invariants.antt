use Rattle.std.proofs.Common.{◌≡◌, ◌+◌, ◌≤◌, length}
use Rattle.ztext.specs.Words.{length_at}
use Rattle.ztext.proofs.Texts.{size_after}
use Rattle.ztext.proofs.length.text_length.Given as goal

abbrev pub invariant-loop-rest : goal.invariant-loop-rest
invariant-loop-rest l = record {
  so_far : size_after l.size l.rest ≡ length_at l.memory l.at;
  within : l.at + (l.size + length l.rest) ≤ length l.memory;
}

abbrev pub decreases-loop-rest : goal.decreases-loop-rest
decreases-loop-rest l = length l.rest
