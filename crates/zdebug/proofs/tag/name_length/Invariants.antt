use Rattle.std.proofs.Common.{◌≡◌, ◌+◌, drop}
use Rattle.std.specs.List.{prefix_len}
use Rattle.zdebug.specs.Reading.{is_of_name}
use Rattle.zdebug.proofs.tag.name_length.Given as goal

abbrev pub invariant-loop-at : goal.invariant-loop-at
invariant-loop-at l = prefix_len is_of_name l.bytes ≡ l.at + prefix_len is_of_name (drop l.at l.bytes)
