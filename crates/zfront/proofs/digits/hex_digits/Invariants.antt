use Rattle.std.proofs.Common.{◌≡◌, ◌+◌, drop}
use Rattle.std.specs.List.{prefix_len}
use Rattle.zfront.specs.Sourced.{is_hex}
use Rattle.zfront.proofs.digits.hex_digits.Given as goal

abbrev pub invariant-loop-at : goal.invariant-loop-at
invariant-loop-at l = prefix_len is_hex l.bytes ≡ l.at + prefix_len is_hex (drop l.at l.bytes)
