use Rattle.std.proofs.Common.{ℕ, ◌<◌}
use Rattle.zcheck.specs.Tables.{HasAbbreviation}
use Rattle.zcheck.proofs.tables.has_abbreviations.Given as goal

abbrev pub invariant-loop-number : goal.invariant-loop-number
invariant-loop-number l = (n : ℕ) → n < l.number → HasAbbreviation l.story n
