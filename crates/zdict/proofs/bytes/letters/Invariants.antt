use Rattle.std.proofs.Common.{◌≡◌, ◌+◌, drop}
use Rattle.std.specs.List.{prefix_len}
use Rattle.zdict.specs.Tokens.{is_letter}
use Rattle.zdict.proofs.bytes.letters.Given as goal

abbrev pub invariant-loop-at : goal.invariant-loop-at
invariant-loop-at l = prefix_len (is_letter l.separators) l.part ≡ l.at + prefix_len (is_letter l.separators) (drop l.at l.part)
