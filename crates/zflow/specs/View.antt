-- What is lent of what is known before an instruction (own).
use Rattle.zflow.specs.declared.view.View.{View}
use Rattle.zflow.specs.Transfer.{Shape}
use Rattle.zflow.specs.Kept.{shape_of}

-- the shape of the frame
abbrev pub seen : {V : Type 0} → View V → Shape V
seen v = shape_of v.locals.now v.slots.now
