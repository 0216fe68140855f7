use Rattle.std.proofs.Common.{ℕ}
use Rattle.zpairs.specs.Frozen.{frozen_by}
use Rattle.zword.specs.Addressing.{place_of}
use Rattle.zruns.specs.Texts.{HasFixedText}
use Rattle.zruns.proofs.Beginnings.{SoFar, words_left}
use Rattle.zruns.proofs.texts.Texts.are_fixed.Given as goal

abbrev pub invariant-loop-least : goal.invariant-loop-least
invariant-loop-least g l = SoFar g.V.Domain.operations l.places (λ (x : ℕ). HasFixedText l.self.story (frozen_by l.self.ranges) (place_of l.addressing x)) l.least

abbrev pub decreases-loop-least : goal.decreases-loop-least
decreases-loop-least g l = words_left l.least
