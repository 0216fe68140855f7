use Rattle.std.proofs.Common.{◌≡◌}
use Rattle.zpairs.specs.Pairs.{ends_below}
use Rattle.zpairs.specs.Blocks.{block_ends}
use Rattle.zpairs.proofs.properties.Properties.all_ends.Given as goal

abbrev pub invariant-loop-block : goal.invariant-loop-block
invariant-loop-block g l = l.ends ≡ ends_below l.block (block_ends g.V.Domain.operations l.self l.question l.objects l.numbers)
