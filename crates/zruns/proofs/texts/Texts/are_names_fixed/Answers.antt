use Rattle.std.proofs.Common.{refl, ap, arith}
use Rattle.zpairs.specs.Frozen.{FrozenStory, frozen_by}
use Rattle.zruns.specs.Names.{HasFixedName}
use Rattle.zruns.proofs.Named.{next_object}
use Rattle.zruns.proofs.texts.Texts.are_names_fixed.Goals as goal

pub loop-below-preserved : goal.loop-below-preserved
loop-below-preserved c = next_object (HasFixedName c.args.self.now.story (frozen_by c.args.self.now.ranges)) c.loop-below.below c.loop-below.invariant (c.if-not-is_name_fixed.ensures.0 refl)

pub returns : goal.returns
returns c =
    let last = c.loop-below-test.false in
    let count = c.objects-below-end.ensures.value in
    let same = ap (λ (told : FrozenStory). told.story.objects) c.self.view_is in
    (λ yes x first most. c.loop-below.invariant x first (omega (arith, most, last, count, same)), λ all. refl)
