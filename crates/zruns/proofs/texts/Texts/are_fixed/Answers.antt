use Rattle.std.proofs.Common.{ℕ, Option, subst}
use Rattle.zpairs.specs.Frozen.{frozen_by}
use Rattle.zword.specs.Addressing.{place_of}
use Rattle.zruns.specs.Texts.{HasFixedText}
use Rattle.zruns.proofs.Beginnings.{SoFar, next_word}
use Rattle.zruns.proofs.texts.Texts.are_fixed.Goals as goal

pub loop-least-preserved : goal.loop-least-preserved
loop-least-preserved g c =
    next_word g.V.Domain.operations c.args.places (λ (x : ℕ). HasFixedText c.args.self.now.story (frozen_by c.args.self.now.ranges) (place_of c.args.addressing x)) c.in-Some.word c.run-run.result c.least_behind-least.result
    (subst (λ (least : Option ℕ). SoFar g.V.Domain.operations c.args.places (λ (x : ℕ). HasFixedText c.args.self.now.story (frozen_by c.args.self.now.ranges) (place_of c.args.addressing x)) least) c.in-Some.is c.loop-least.invariant)
    c.run-run.ensures.each c.least_behind-least.ensures
