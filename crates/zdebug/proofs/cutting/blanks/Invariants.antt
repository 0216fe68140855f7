use Rattle.std.proofs.Common.{◌≡◌, ◌+◌, drop}
use Rattle.std.specs.List.{prefix_len}
use Rattle.zdebug.specs.Cutting.{is_blank}
use Rattle.zdebug.proofs.cutting.blanks.Given as goal

abbrev pub invariant-loop-at : goal.invariant-loop-at
invariant-loop-at l = prefix_len is_blank l.bytes ≡ l.at + prefix_len is_blank (drop l.at l.bytes)
