use Rattle.std.proofs.Common.{◌∙◌, length, ap}
use Rattle.std.specs.List.{filter}
use Rattle.zcert.specs.Contents.{has_mark}
use Rattle.zcert.proofs.Marked.{marks_stored}
use Rattle.zcert.proofs.instructions.Instructions.marks.Goals as goal

pub returns : goal.returns
returns g c =
    rw (← c.self.view_is) (
    c.marks_of.ensures
    ∙ ap (λ ss. length (filter has_mark ss)) c.deref.ensures.value
    ∙ marks_stored g.V.Spelled.keeping c.self.inside.cells.items c.self.inside.stored.items
    )
