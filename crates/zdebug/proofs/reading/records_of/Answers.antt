use Rattle.std.proofs.Common.{◌≡◌, true, false, None, Some, rules}
use Rattle.std.proofs.lemmas.Result.{err_from_is_err_and}
use Rattle.std.specs.List.{list_all}
use Rattle.zdebug.specs.Cutting.{cut, is_blank}
use Rattle.zdebug.specs.Reading.{whole}
use Rattle.zdebug.specs.View.{found_of, kept_of}
use Rattle.zdebug.proofs.Going.{refused_on, refused_same, then_answered, answered_same}
use Rattle.zdebug.proofs.Series.{reading_uncut, reading_refused, reading_on}
use Rattle.zdebug.proofs.reading.records_of.Goals as goal

pub returns-in-None : goal.returns-in-None
returns-in-None c =
    let is : None ≡ cut 60 c.args.bytes.now = search rules in
    reading_uncut c.args.bytes.now is

pub returns-then-not-are_blanks : goal.returns-then-not-are_blanks
returns-then-not-are_blanks c =
    let is : Some (c.in-Some.lead.now, c.in-Some.rest.now) ≡ cut 60 c.args.bytes.now = search rules in
    let lead : list_all is_blank c.in-Some.lead.now ≡ false = search rules in
    reading_refused c.args.bytes.now c.in-Some.lead.now c.in-Some.rest.now is lead

pub returns-in_err-take_all-in-Some : goal.returns-in_err-take_all-in-Some
returns-in_err-take_all-in-Some c =
    let is : Some (c.in-Some.lead.now, c.in-Some.rest.now) ≡ cut 60 c.args.bytes.now = search rules in
    let lead : list_all is_blank c.in-Some.lead.now ≡ true = search rules in
    let due = reading_on (kept_of c.new-reader.result) c.args.bytes.now c.in-Some.lead.now c.in-Some.rest.now c.new-reader.ensures is lead in
    let p = err_from_is_err_and c.from_residual.result c.from_residual.ensures.1 in
    rw (p.1, p.2) (refused_same c.in_err-take_all-in-Some.field-0.0 _ _ due (refused_on c.in_err-take_all-in-Some.field-0.0 _ whole c.in_err-take_all-in-Some.ensures))

pub returns-in_ok-take_all-in-Some : goal.returns-in_ok-take_all-in-Some
returns-in_ok-take_all-in-Some c =
    let is : Some (c.in-Some.lead.now, c.in-Some.rest.now) ≡ cut 60 c.args.bytes.now = search rules in
    let lead : list_all is_blank c.in-Some.lead.now ≡ true = search rules in
    let due = reading_on (kept_of c.new-reader.result) c.args.bytes.now c.in-Some.lead.now c.in-Some.rest.now c.new-reader.ensures is lead in
    answered_same found_of c.whole_of.result _ _ due (then_answered found_of c.whole_of.result _ (kept_of c.take_all.new.self) whole c.in_ok-take_all-in-Some.ensures c.whole_of.ensures)
