use Rattle.std.proofs.Common.{refl, arith}
use Rattle.zplace.specs.Tables.{IsPropertyData}
use Rattle.zplace.proofs.Each.{frame_of, frames_more, frames_where}
use Rattle.zplace.proofs.property_tables.frames_leave_data.Goals as goal

pub returns-then-not-frame_leaves_data : goal.returns-then-not-frame_leaves_data
returns-then-not-frame_leaves_data c =
    let counted = c.objects-below-end.ensures.value in
    let more = c.loop-below-test.true in
    (λ no. absurd cc, λ all. c.if-not-frame_leaves_data.ensures.1 (frame_of c.args.story.now (IsPropertyData c.args.story.now) c.loop-below.below c.table_of.result c.table_of.ensures.value (omega (arith, counted, more)) all))

pub loop-below-preserved : goal.loop-below-preserved
loop-below-preserved c =
    frames_more c.args.story.now (IsPropertyData c.args.story.now) c.loop-below.below c.table_of.result c.table_of.ensures.value c.loop-below.invariant (c.if-not-frame_leaves_data.ensures.0 refl)

pub returns : goal.returns
returns c =
    let counted = c.objects-below-end.ensures.value in
    let all_told = c.loop-below-test.false in
    (λ yes. (frames_where c.args.story.now (IsPropertyData c.args.story.now)).1 (λ object first last. c.loop-below.invariant object first (omega (arith, counted, all_told, last))), λ all. refl)
