use Rattle.std.proofs.Common.{rules}
use Rattle.zquetzal.proofs.Numbers.{IsBytes}
use Rattle.zunpack.specs.Causes.{IsCause, IsLowest}
use Rattle.zunpack.specs.View.{HasParts, seen_parts}
use Rattle.zunpack.proofs.Judged.{form_of, long_enough}
use Rattle.zunpack.proofs.Made.{judged_part}
use Rattle.zunpack.proofs.Handed.{handed, handed_none, parts_found, parts_twice}
use Rattle.zunpack.proofs.unpacking.packed_parts.Goals as goal

pub returns-in_err-check_form-clause-ok : goal.returns-in_err-check_form-clause-ok
returns-in_err-check_form-clause-ok c = handed_none (λ x. HasParts c.args.file.now (seen_parts x)) c.from_residual.result c.in_err-check_form.field-0.0 c.from_residual.ensures

pub returns-in_err-check_form-clause-err : goal.returns-in_err-check_form-clause-err
returns-in_err-check_form-clause-err c = handed (IsLowest (IsCause c.args.story.now c.args.file.now)) c.from_residual.result c.in_err-check_form.field-0.0 c.from_residual.ensures c.in_err-check_form.ensures.err

pub slice_bounds-parts_of-count : goal.slice_bounds-parts_of-count
slice_bounds-parts_of-count c =
    let form = form_of c.args.story.now c.args.file.now c.in_ok-check_form.ensures.ok in
    long_enough c.args.file.now form.form

pub parts_of-requires : goal.parts_of-requires
parts_of-requires c =
    let chosen = c.in_ok-check_form.ensures.ok in
    judged_part c.args.file.now chosen.holds.chunks (form_of c.args.story.now c.args.file.now chosen)

pub returns-clause-ok : goal.returns-clause-ok
returns-clause-ok c =
    let fits : IsBytes c.args.file.now = λ i. search rules in
    parts_found (λ x. seen_parts x) c.args.story.now c.args.file.now c.parts_of.result fits c.in_ok-check_form.ensures.ok c.parts_of.ensures.found

pub returns-clause-err : goal.returns-clause-err
returns-clause-err c = parts_twice c.args.story.now c.args.file.now c.parts_of.result c.in_ok-check_form.ensures.ok c.parts_of.ensures.twice
