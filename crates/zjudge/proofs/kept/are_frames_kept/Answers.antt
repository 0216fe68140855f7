use Rattle.std.proofs.Common.{ℕ, ◌+◌, refl, sym, subst, arith}
use Rattle.zplace.specs.Bytes.{IsTableFrame}
use Rattle.zjudge.specs.Memory.{AreKept}
use Rattle.zplace.proofs.Each.{one_more}
use Rattle.zjudge.proofs.Closed.{frames_where}
use Rattle.zjudge.proofs.kept.are_frames_kept.Goals as goal
use Rattle.zstory.specs.Objects.{property_table}

pub returns-then-not-is_frame_kept : goal.returns-then-not-is_frame_kept
returns-then-not-is_frame_kept c =
    let counted = c.objects-below-end.ensures.value in
    let more = c.loop-below-test.true in
    let story = c.args.story.now in let saved = c.args.saved.now in
    (λ no. absurd cc, λ all. c.if-not-is_frame_kept.ensures.1 (subst (λ (k : ℕ). AreKept story saved (IsTableFrame story.memory k)) (sym c.table_of.ensures.value) ((frames_where story saved).0 all (c.loop-below.below + 1) (omega arith) (omega (arith, counted, more)))))

pub loop-below-preserved : goal.loop-below-preserved
loop-below-preserved c =
    let story = c.args.story.now in let saved = c.args.saved.now in
    one_more (λ object. AreKept story saved (IsTableFrame story.memory (property_table story.memory object))) c.loop-below.below c.loop-below.invariant (subst (λ (k : ℕ). AreKept story saved (IsTableFrame story.memory k)) c.table_of.ensures.value (c.if-not-is_frame_kept.ensures.0 refl))

pub returns : goal.returns
returns c =
    let counted = c.objects-below-end.ensures.value in
    let all_told = c.loop-below-test.false in
    (λ yes. (frames_where c.args.story.now c.args.saved.now).1 (λ object first last. c.loop-below.invariant object first (omega (arith, counted, all_told, last))), λ all. refl)
