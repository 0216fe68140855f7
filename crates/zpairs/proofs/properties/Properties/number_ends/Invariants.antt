use Rattle.std.proofs.Common.{◌≡◌}
use Rattle.zpairs.specs.Pairs.{ends_below, pair_ends}
use Rattle.zpairs.proofs.properties.Properties.number_ends.Given as goal

abbrev pub invariant-loop-number : goal.invariant-loop-number
invariant-loop-number g l = l.ends ≡ ends_below l.number (pair_ends g.V.Domain.operations l.self l.question l.numbers l.object)
