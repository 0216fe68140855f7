-- The number of a rule, which a refusal shows (own).
use Rattle.std.specs.Prelude.{ℕ}
use Rattle.zrule.specs.declared.rule.Rule.{Rule}
use Rattle.zrule.specs.declared.rule.Rule.TheVariants as rules

abbrev pub number_of : Rule → ℕ
number_of rules.Decodes = 1
number_of rules.Height = 2
number_of rules.Local = 3
number_of rules.Successor = 4
number_of rules.Object = 5
number_of rules.Attribute = 6
number_of rules.Property = 7
number_of rules.Divisor = 8
number_of rules.Write = 9
number_of rules.Read = 10
number_of rules.Text = 11
number_of rules.Called = 12
number_of rules.Returned = 13
number_of rules.Buffers = 14
number_of rules.Known = 15
number_of rules.Stored = 16
number_of rules.High = 17
number_of rules.Status = 18
