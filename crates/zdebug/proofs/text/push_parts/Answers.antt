use Rattle.std.proofs.Common.{◌≡◌, ◌∙◌, None, Some, rules}
use Rattle.std.proofs.lemmas.Result.{err_from_is_err_and}
use Rattle.zdebug.specs.Cutting.{cut}
use Rattle.zdebug.proofs.Going.{refused_same, led_same}
use Rattle.zdebug.proofs.Series.{joined_more, joined_refused, joined_last}
use Rattle.zdebug.proofs.text.push_parts.Goals as goal

pub returns-in_err-push_part : goal.returns-in_err-push_part
returns-in_err-push_part c =
    let is : Some (c.in-Some.part.now, c.in-Some.behind.now) ≡ cut 38 c.loop-part.rest.now = search rules in
    let p = err_from_is_err_and c.from_residual.result c.from_residual.ensures.1 in
    rw (p.1, p.2) (refused_same c.in_err-push_part.field-0.0 _ _ c.loop-part.invariant (joined_refused c.in_err-push_part.field-0.0 c.loop-part.text.items c.loop-part.rest.now c.in-Some.part.now c.in-Some.behind.now is c.in_err-push_part.ensures))

pub loop-part-preserved : goal.loop-part-preserved
loop-part-preserved c =
    let is : Some (c.in-Some.part.now, c.in-Some.behind.now) ≡ cut 38 c.loop-part.rest.now = search rules in
    c.loop-part.invariant ∙ joined_more c.loop-part.text.items c.push_part.new.text.items c.loop-part.rest.now c.in-Some.part.now c.in-Some.behind.now is c.in_ok-push_part.ensures

pub returns : goal.returns
returns c =
    let is : None ≡ cut 38 c.loop-part.rest.now = search rules in
    led_same _ c.push_part-2.result _ _ (c.loop-part.invariant ∙ joined_last c.loop-part.text.items c.loop-part.rest.now is) c.push_part-2.ensures
