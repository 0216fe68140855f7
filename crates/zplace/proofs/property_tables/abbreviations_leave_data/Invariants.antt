use Rattle.std.proofs.Common.{ℕ, ◌<◌}
use Rattle.zplace.specs.Places.{AbbreviationLeavesData}
use Rattle.zplace.proofs.property_tables.abbreviations_leave_data.Given as goal

abbrev pub invariant-loop-number : goal.invariant-loop-number
invariant-loop-number l = (number : ℕ) → number < l.number → AbbreviationLeavesData l.story number
