-- The number of a rule on the story, which a refusal shows (own).
use Rattle.std.specs.Prelude.{ℕ}
use Rattle.zcheck.specs.declared.refusal.StoryRule.{StoryRule}
use Rattle.zcheck.specs.declared.refusal.StoryRule.TheVariants as rules

abbrev pub number_of : StoryRule → ℕ
number_of rules.Identity = 1
number_of rules.FirstPlace = 2
number_of rules.RoutineHeads = 3
number_of rules.FirstGlobals = 4
number_of rules.PropertyTables = 5
number_of rules.Tree = 6
number_of rules.Abbreviations = 7
number_of rules.Tables = 8
