use Rattle.std.proofs.Common.{List, subst, arith, ◌∙◌, ap, ◌++◌}
use Rattle.zfault.specs.Devices.{AppendsBeginning}
use Rattle.zfault.specs.declared.item.Item.{Item}
use Rattle.zscreen.specs.Rendering.{render}
use Rattle.zplayer.proofs.Writes.{moved, refused}
use Rattle.zplayer.proofs.turns.turn.Goals as goal

pub returns-in_err-map_err-clause-in_part : goal.returns-in_err-map_err-clause-in_part
returns-in_err-map_err-clause-in_part g c =
    let made = c.run_down-ran.ensures.made in
    let begun = refused c.write_items.result _ c.in_err-map_err.ensures.variant c.write_items.ensures.begun in
    let given = made.2.items_are ∙ ap (λ (l : List Item). l ++ made.2.given) c.clear.ensures.items in
    let of_given = subst (λ (l : List Item). AppendsBeginning (g.W.Sink.contents c.args.writer.now) (g.W.Sink.contents c.write_items.new.sink) (render c.args.status l)) given begun in
    λ _. record { steps = made.0; few = omega (arith, made.1, c.min-steps.ensures); given = made.2.given; all = omega (arith, made.1, c.min-steps.ensures); goes = made.2.goes; written = of_given }

pub returns-in-Err-2-clause-fewer : goal.returns-in-Err-2-clause-fewer
returns-in-Err-2-clause-fewer g c =
    let made = c.run_down-ran.ensures.made in
    let some = moved _ _ _ _ _ _ made.2 c.clear.ensures.items (c.is_empty.ensures.held c.if-is_empty.false) in
    λ _. omega (arith, some, made.1, c.min-steps.ensures)
