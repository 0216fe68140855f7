use Rattle.std.proofs.Common.{arith}
use Rattle.zengine.proofs.Changed.{marked}
use Rattle.zengine.proofs.changing.may_mark.Goals as goal

pub returns : goal.returns
returns c = λ story memory same. marked story c.args.number c.args.attribute memory (c.in_ok-object_of.ensures.there story same) (let l = c.in_ok-attribute_of.ensures.there in let e = c.in_ok-attribute_of.ensures.same in omega (arith, l, e))
