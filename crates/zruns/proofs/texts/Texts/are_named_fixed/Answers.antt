use Rattle.std.proofs.Common.{refl, ap, arith}
use Rattle.zdomain.specs.Domain.{In}
use Rattle.zpairs.specs.Frozen.{FrozenStory, frozen_by}
use Rattle.zruns.specs.Names.{HasFixedName}
use Rattle.zruns.proofs.Named.{next_object}
use Rattle.zruns.proofs.texts.Texts.are_named_fixed.Goals as goal

pub loop-below-preserved : goal.loop-below-preserved
loop-below-preserved g c = next_object (λ x. In g.V.Domain.operations c.args.objects x → HasFixedName c.args.self.now.story (frozen_by c.args.self.now.ranges) x) c.loop-below.below c.loop-below.invariant (c.if-not-is_named_fixed.ensures.0 refl)

pub returns : goal.returns
returns g c =
    let last = c.loop-below-test.false in
    let count = c.objects-below-end.ensures.value in
    let same = ap (λ (told : FrozenStory). told.story.objects) c.self.view_is in
    (λ yes x first most. c.loop-below.invariant x first (omega (arith, most, last, count, same)), λ all. refl)
