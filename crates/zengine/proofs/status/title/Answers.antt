use Rattle.std.proofs.Common.{◌∙◌, sym}
use Rattle.zengine.proofs.Titles.{named}
use Rattle.zengine.proofs.status.title.Goals as goal

pub returns : goal.returns
returns c = named c.args.story.now c.args.memory.now (λ none. c.if-number-eq0.false (c.global-number.ensures ∙ none)) _ c.global-number.ensures _ _ (c.name.ensures c.args.story.now (sym c.objects.ensures.value))
