use Rattle.std.proofs.Common.{◌∙◌, ℕ, List, ap, subst}
use Rattle.zplayer.specs.declared.noting.Answered.{Answered}
use Rattle.zperform.specs.Devices.{Says, seen}
use Rattle.zperform.specs.Excusing.{SaysWarnings, count_line}
use Rattle.zperform.proofs.excusing.say_noted.Goals as goal

pub returns : goal.returns
returns g c =
    let shown = seen g.E.Sink.contents g.E.Sink.failures g.E.Sink.waits in (
      shown c.say_warnings.new.errors,
      subst (λ (firsts : List Answered). SaysWarnings firsts (shown c.args.errors.now) (shown c.say_warnings.new.errors)) c.firsts.ensures c.say_warnings.ensures,
      subst (λ (text : List ℕ). Says (shown c.say_warnings.new.errors) (shown c.say.new.errors) text) (c.as_slice.ensures ∙ c.of_count.ensures ∙ ap count_line c.count.ensures) c.say.ensures,
    )
