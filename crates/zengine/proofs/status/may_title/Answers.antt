use Rattle.std.proofs.Common.{◌∙◌, sym}
use Rattle.zengine.proofs.Titles.{may_named, untitled}
use Rattle.zengine.proofs.status.may_title.Goals as goal

pub returns : goal.returns
returns c = may_named c.args.story.now c.args.memory.now (λ none. c.if-shown-eq0.false (c.global-shown.ensures ∙ none)) _ c.global-shown.ensures _ (c.may_name.ensures c.args.story.now (sym c.objects.ensures.value))

pub returns-then-shown-eq0 : goal.returns-then-shown-eq0
returns-then-shown-eq0 c = untitled c.args.story.now c.args.memory.now (sym c.global-shown.ensures ∙ c.if-shown-eq0.true)
