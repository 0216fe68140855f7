use Rattle.std.proofs.Common.{◌≡◌, ◌+◌, drop}
use Rattle.std.specs.List.{prefix_len}
use Rattle.zdict.specs.Tokens.{is_space}
use Rattle.zdict.proofs.bytes.spaces.Given as goal

abbrev pub invariant-loop-at : goal.invariant-loop-at
invariant-loop-at l = prefix_len is_space l.part ≡ l.at + prefix_len is_space (drop l.at l.part)
