use Rattle.std.proofs.Common.{◌≡◌}
use Rattle.zpairs.specs.Pairs.{ends_below}
use Rattle.zpairs.specs.Blocks.{place_ends}
use Rattle.zpairs.proofs.properties.Properties.some_ends.Given as goal

abbrev pub invariant-loop-place : goal.invariant-loop-place
invariant-loop-place g l = l.ends ≡ ends_below l.place (place_ends g.V.Domain.operations l.self l.question l.objects l.numbers l.block)
