use Rattle.std.proofs.Common.{ap, ◌∙◌, arith}
use Rattle.std.specs.Prelude.{◌||◌, Bool}
use Rattle.zdomain.specs.Marks.{is_marked}
use Rattle.zpairs.proofs.Ranged.{unmarked, mark_more, marked_whole}
use Rattle.zpairs.proofs.frozen.mark.Goals as goal

pub loop-place-init : goal.loop-place-init
loop-place-init c =
    let at = c.from-place.ensures in
    record {
      above = omega (arith, at);
      below = omega (arith, at);
      so_far = λ p. unmarked (is_marked c.args.marks.now p) c.args.range.first c.from-place.result p at;
    }

pub loop-place-preserved : goal.loop-place-preserved
loop-place-preserved c =
    let i = c.loop-place.invariant in
    let above = i.above in
    let end = c.from-place-end.ensures in
    let low = c.loop-place-test.true in
    record {
      above = omega (arith, above);
      below = omega (arith, low, end);
      so_far = λ p. mark_more (is_marked c.args.marks.now p) (is_marked c.loop-place.marks p) (is_marked c.add.new.self p) c.args.range.first c.loop-place.place p i.above (c.add.ensures p) (i.so_far p);
    }

pub returns : goal.returns
returns c =
    let i = c.loop-place.invariant in
    let end = c.from-place-end.ensures in
    let last = c.loop-place-test.false in
    λ p below. i.so_far p ∙ ap (λ (b : Bool). is_marked c.args.marks.now p || b) (marked_whole c.args.range.first c.args.range.last c.loop-place.place p (omega (arith, last, end)) i.below)
