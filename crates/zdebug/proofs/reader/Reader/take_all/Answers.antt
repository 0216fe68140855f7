use Rattle.std.proofs.Common.{◌≡◌, ◌∙◌, None, Some, rules}
use Rattle.std.proofs.lemmas.Result.{err_from_is_err_and}
use Rattle.zdebug.specs.Cutting.{cut}
use Rattle.zdebug.specs.View.{kept_of}
use Rattle.zdebug.proofs.Going.{refused_same, led_same}
use Rattle.zdebug.proofs.Series.{after_more, after_refused, after_last}
use Rattle.zdebug.proofs.reader.Reader.take_all.Goals as goal

pub returns-in_err-take : goal.returns-in_err-take
returns-in_err-take c =
    let is : Some (c.in-Some.part.now, c.in-Some.behind.now) ≡ cut 60 c.loop-part.rest.now = search rules in
    let p = err_from_is_err_and c.from_residual.result c.from_residual.ensures.1 in
    rw (p.1, p.2) (refused_same c.in_err-take.field-0.0 _ _ c.loop-part.invariant (after_refused c.in_err-take.field-0.0 (kept_of c.loop-part.self) c.loop-part.rest.now c.in-Some.part.now c.in-Some.behind.now is c.in_err-take.ensures))

pub loop-part-preserved : goal.loop-part-preserved
loop-part-preserved c =
    let is : Some (c.in-Some.part.now, c.in-Some.behind.now) ≡ cut 60 c.loop-part.rest.now = search rules in
    c.loop-part.invariant ∙ after_more (kept_of c.loop-part.self) (kept_of c.take.new.self) c.loop-part.rest.now c.in-Some.part.now c.in-Some.behind.now is c.in_ok-take.ensures

pub returns : goal.returns
returns c =
    let is : None ≡ cut 60 c.loop-part.rest.now = search rules in
    led_same _ c.take-2.result _ _ (c.loop-part.invariant ∙ after_last (kept_of c.loop-part.self) c.loop-part.rest.now is) c.take-2.ensures
