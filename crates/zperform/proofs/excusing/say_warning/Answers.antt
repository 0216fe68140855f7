use Rattle.std.proofs.Common.{◌∙◌, inl, inr}
use Rattle.zperform.proofs.excusing.say_warning.Goals as goal

pub returns-in-Ok : goal.returns-in-Ok
returns-in-Ok g c = (c.deref.result.now, inl (c.deref.ensures.value ∙ c.in-Ok.ensures), c.say.ensures)

pub returns-in-Err : goal.returns-in-Err
returns-in-Err g c = (c.as_slice.result.now, inr (c.as_slice.ensures ∙ c.of_warning.ensures), c.say-in-Err.ensures)
