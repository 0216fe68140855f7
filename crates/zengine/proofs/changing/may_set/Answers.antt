use Rattle.zengine.proofs.Changed.{filled}
use Rattle.zengine.proofs.changing.may_set.Goals as goal

pub returns-in-Ok : goal.returns-in-Ok
returns-in-Ok c = λ story word same fixed. filled word c.args.memory.now c.in-Ok.field-0 _ c.in-Ok.ensures.readable.some c.in-Ok.ensures.short (c.in-Ok.ensures.ok story word same fixed)
