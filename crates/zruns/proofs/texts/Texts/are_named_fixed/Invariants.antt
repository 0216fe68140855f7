use Rattle.std.proofs.Common.{ℕ, ◌≤◌}
use Rattle.zdomain.specs.Domain.{In}
use Rattle.zpairs.specs.Frozen.{frozen_by}
use Rattle.zruns.specs.Names.{HasFixedName}
use Rattle.zruns.proofs.texts.Texts.are_named_fixed.Given as goal

abbrev pub invariant-loop-below : goal.invariant-loop-below
invariant-loop-below g l = (x : ℕ) → 1 ≤ x → x ≤ l.below → In g.V.Domain.operations l.objects x → HasFixedName l.self.story (frozen_by l.self.ranges) x
