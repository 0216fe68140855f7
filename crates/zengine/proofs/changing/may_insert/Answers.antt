use Rattle.zengine.proofs.Changed.{moved}
use Rattle.zengine.proofs.changing.may_insert.Goals as goal

pub returns-in-Ok : goal.returns-in-Ok
returns-in-Ok c = λ story same. moved story c.args.objects c.in_ok-object.object c.args.number c.args.other c.args.memory.now c.in-Ok.field-0 (c.in_ok-object.ensures.there story same) (c.in_ok-object_of.ensures.there story same) c.in_ok-object.ensures.same c.in-Ok.ensures.value
