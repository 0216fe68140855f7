use Rattle.std.proofs.Common.{◌-◌, arith}
use Rattle.zpairs.specs.Frozen.{FrozenStory}
use Rattle.zruns.proofs.Beginnings.{none_marked, one_more_mark}
use Rattle.zruns.proofs.text_marks.mark_texts.Goals as goal

pub loop-at-init : goal.loop-at-init
loop-at-init c =
    let long = c.length-at.ensures.value in
    record {
      below = omega (arith, long);
      fixed = c.is_fixed-behind_fixed.ensures;
      so_far = none_marked (record { story = c.args.marked.story.now; ranges = c.args.marked.ranges.now }) c.none.result c.length-at.result long c.none.ensures;
    }

pub loop-at-preserved : goal.loop-at-preserved
loop-at-preserved c =
    let i = c.loop-at.invariant in
    let below = i.below in
    let some = c.loop-at-test.true in
    let told : FrozenStory = record { story = c.args.marked.story.now; ranges = c.args.marked.ranges.now } in
    record {
      below = omega (arith, below);
      fixed = c.is_fixed-fixed.ensures;
      so_far = one_more_mark told c.loop-at.marks c.mark_if.new.marks (c.loop-at.at - 1) c.loop-at.at c.has.result c.begins_text-begins.result (omega (arith, some)) c.mark_if.ensures c.has.ensures c.begins_text-begins.ensures i.so_far;
    }
