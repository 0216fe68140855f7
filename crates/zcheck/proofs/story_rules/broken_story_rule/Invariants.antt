use Rattle.std.proofs.Common.{take}
use Rattle.std.specs.List.{AllByRecursion}
use Rattle.zcheck.specs.Passes.{KeepsStory}
use Rattle.zcheck.proofs.Order.{asked}
use Rattle.zcheck.proofs.story_rules.broken_story_rule.Given as goal

abbrev pub invariant-loop-rule : goal.invariant-loop-rule
invariant-loop-rule g l = AllByRecursion (KeepsStory g.V.Domain.operations l.story l.certificate) (take l.rule-index asked)
