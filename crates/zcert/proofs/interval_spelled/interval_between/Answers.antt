use Rattle.std.proofs.Common.{rules, ap}
use Rattle.zdomain.proofs.Ends.{with_ends}
use Rattle.zcert.specs.Numbers.{HasRoom, End}
use Rattle.zcert.specs.Format.{nonempty}
use Rattle.zcert.specs.FormatLaw.Intervals.{passed_end}
use Rattle.zcert.proofs.interval_spelled.interval_between.Goals as goal

pub returns-in-Some : goal.returns-in-Some
returns-in-Some c =
    let lo : HasRoom End c.args.lo = search rules in
    let hi : HasRoom End c.args.hi = search rules in
    let ends = c.in-Some.ensures.ends in
    ap nonempty (with_ends _ _ _ (passed_end _ _ _ lo c.cast_signed.ensures ends.0) (passed_end _ _ _ hi c.cast_signed-2.ensures ends.1))
