use Rattle.std.proofs.Common.{refl}
use Rattle.zjudge.proofs.Closed.{closed_where, ranges_where}
use Rattle.zjudge.proofs.kept.are_closed_kept.Goals as goal

pub returns-then-not-are_objects_kept : goal.returns-then-not-are_objects_kept
returns-then-not-are_objects_kept c =
    let whole = closed_where c.args.story.now c.args.saved.now c.args.ranges.now in
    (λ no. absurd cc, λ all. c.if-not-are_objects_kept.ensures.1 ((whole.0 all).0, (whole.0 all).1))

pub returns-then-are_abbreviations_kept : goal.returns-then-are_abbreviations_kept
returns-then-are_abbreviations_kept c =
    let each = ranges_where c.args.story.now c.args.saved.now c.args.ranges.now in
    let whole = closed_where c.args.story.now c.args.saved.now c.args.ranges.now in
    let objects = c.if-not-are_objects_kept.ensures.0 refl in
    (λ yes. whole.1 (objects.0, objects.1, c.if-are_abbreviations_kept.ensures.0 refl, each.0 (c.are_ranges_kept.ensures.0 yes)), λ all. c.are_ranges_kept.ensures.1 (each.1 (whole.0 all).3))

pub returns-else-are_abbreviations_kept : goal.returns-else-are_abbreviations_kept
returns-else-are_abbreviations_kept c =
    let whole = closed_where c.args.story.now c.args.saved.now c.args.ranges.now in
    (λ yes. absurd (let e = c.if-are_abbreviations_kept.false in cc), λ all. c.are_abbreviations_kept.ensures.1 (whole.0 all).2)
