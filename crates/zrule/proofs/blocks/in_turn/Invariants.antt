use Rattle.std.proofs.Common.{◌≡◌, length}
use Rattle.zrule.specs.Blocks.{AreInTurn}
use Rattle.zrule.specs.Claims.{claims_of}
use Rattle.zrule.proofs.blocks.in_turn.Given as goal

abbrev pub invariant-loop-number : goal.invariant-loop-number
invariant-loop-number g l = record {
  told : AreInTurn g.V.Domain.operations (claims_of g.V.Domain.operations l.certificate) l.story l.count l.made.items;
  count : length l.made.items ≡ l.number;
}
