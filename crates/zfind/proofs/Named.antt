-- That a certificate names a limit of frames makes no difference to whether it passes.
use Rattle.std.proofs.Common.{Option, ℕ}
use Rattle.zstory.specs.LoadedStory.{LoadedStory}
use Rattle.zdomain.specs.Domain.{SetOperations}
use Rattle.zcert.specs.Certificate.{Certificate}
use Rattle.zcheck.specs.declared.refusal.StoryRule.{StoryRule}
use Rattle.zcheck.specs.declared.refusal.StoryRule.TheVariants as rules
use Rattle.zcheck.specs.Passes.{KeepsStory, Passes}

module _ {V : Type 0} (o : SetOperations V) (story : LoadedStory) (c : Certificate V) (limit : Option ℕ) where
  abbrev named : Certificate V
  named = record c { limit = limit }

  pub named_passes : Passes o story c → Passes o story named
  named_passes passes = record { story_rules = keeps; each = passes.each }
    where
      keeps : (rule : StoryRule) → KeepsStory o story named rule
      keeps rules.Identity = passes.story_rules rules.Identity
      keeps rules.FirstPlace = passes.story_rules rules.FirstPlace
      keeps rules.RoutineHeads = passes.story_rules rules.RoutineHeads
      keeps rules.FirstGlobals = passes.story_rules rules.FirstGlobals
      keeps rules.PropertyTables = passes.story_rules rules.PropertyTables
      keeps rules.Tree = passes.story_rules rules.Tree
      keeps rules.Abbreviations = passes.story_rules rules.Abbreviations
      keeps rules.Tables = passes.story_rules rules.Tables
