use Rattle.std.proofs.Common.{◌≡◌, ◌++◌, drop}
use Rattle.zperform.specs.Showing.{first_line}
use Rattle.zperform.proofs.claims.add_first_line.Given as goal

-- what is left to add is the first line of what follows
abbrev pub invariant-loop-byte : goal.invariant-loop-byte
invariant-loop-byte l = l.text.items ++ first_line (drop l.byte-index l.lines) ≡ l.fn.text.items ++ first_line l.lines
