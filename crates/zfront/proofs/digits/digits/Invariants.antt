use Rattle.std.proofs.Common.{◌≡◌, ◌+◌, drop}
use Rattle.std.specs.List.{prefix_len}
use Rattle.zfront.specs.Sourced.{is_digit}
use Rattle.zfront.proofs.digits.digits.Given as goal

abbrev pub invariant-loop-at : goal.invariant-loop-at
invariant-loop-at l = prefix_len is_digit l.bytes ≡ l.at + prefix_len is_digit (drop l.at l.bytes)
