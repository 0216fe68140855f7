use Rattle.std.proofs.Common.{◌++◌, sym, ◌∙◌}
use Rattle.std.proofs.lemmas.Result.{err_from_is_err_and}
use Rattle.zcert.proofs.Room.{field_wants_none}
use Rattle.zcert.proofs.next.next_of.Goals as goal

pub returns-in_err-field-clause-memory : goal.returns-in_err-field-clause-memory
returns-in_err-field-clause-memory g c =
    let p = err_from_is_err_and c.from_residual.result c.from_residual.ensures.1 in
    λ e.
    let both = sym p.1 ∙ e in
    absurd (field_wants_none g.V.Spelled.format g.met.V.Spelled.is_format c.turn.result (g.V.Spelled.turns.came c.args.partial.now ++ c.args.number.now) c.in_err-field.field-0.0 c.in_err-field.ensures.refused.0 cc)
