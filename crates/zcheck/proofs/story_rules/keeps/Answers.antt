use Rattle.std.proofs.Common.{sym, subst}
use Rattle.std.specs.Prelude.{IsTrue}
use Rattle.zcheck.specs.declared.refusal.StoryRule.{StoryRule}
use Rattle.zcheck.specs.Passes.{KeepsStory}
use Rattle.zcheck.proofs.story_rules.keeps.Goals as goal

pub returns-in-FirstGlobals : goal.returns-in-FirstGlobals
returns-in-FirstGlobals g c =
    subst (λ (rule : StoryRule). (IsTrue c.has_globals.result → KeepsStory g.V.Domain.operations c.args.story.now c.args.certificate.now rule) × (KeepsStory g.V.Domain.operations c.args.story.now c.args.certificate.now rule → IsTrue c.has_globals.result)) (sym c.in-FirstGlobals.is) c.has_globals.ensures
