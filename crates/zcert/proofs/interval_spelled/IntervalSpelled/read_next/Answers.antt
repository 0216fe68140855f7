use Rattle.std.proofs.Common.{◌≡◌, ◌∙◌, ap, refl, rules}
use Rattle.zcert.specs.Begun.{end_bytes}
use Rattle.zcert.specs.Numbers.{HasRoom, End, number}
use Rattle.zcert.specs.FormatLaw.Intervals.{ends_read}
use Rattle.zcert.proofs.interval_spelled.IntervalSpelled.read_next.Goals as goal

pub returns-in_ok-interval_between-in-Lower-clause-whole : goal.returns-in_ok-interval_between-in-Lower-clause-whole
returns-in_ok-interval_between-in-Lower-clause-whole c =
    let lo = c.in-Lower.lo in
    let room : HasRoom End lo = search rules in
    let came : end_bytes c.args.partial.now ≡ number End lo = ap end_bytes c.in-Lower.is in
    (rw came (ends_read c.args.number.now lo c.word_of-end.result room c.word_of-end.ensures ∙ rw (← c.in_ok-interval_between-in-Lower.ensures) refl), refl)
