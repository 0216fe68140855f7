use Rattle.std.proofs.Common.{rules, arith, subst, sym, refl, ◌*◌, ◌<◌, ◌≤◌}
use Rattle.zrule.specs.Blocks.{AreInTurn}
use Rattle.zrule.specs.Claims.{claims_of}
use Rattle.zrule.proofs.Together.{block_inside, one_more_block}
use Rattle.zrule.proofs.blocks.in_turn.Goals as goal

pub overflow_mul-count : goal.overflow_mul-count
overflow_mul-count g c =
    let less : c.loop-number.number < c.args.blocks = search (rules, arith) in
    let inside = block_inside c.args.count c.loop-number.number c.args.blocks less c.requires.few in
    let some = c.requires.some in
    let fit : c.args.count * c.loop-number.number ≤ 65535 = omega (arith, inside, some) in
    search rules

pub block_from-requires-clause-few : goal.block_from-requires-clause-few
block_from-requires-clause-few g c =
    let less : c.loop-number.number < c.args.blocks = search (rules, arith) in
    block_inside c.args.count c.loop-number.number c.args.blocks less c.requires.few

pub loop-number-preserved : goal.loop-number-preserved
loop-number-preserved g c =
    let claims = claims_of g.V.Domain.operations c.args.certificate.now in
    record {
      told = subst (λ bs. AreInTurn g.V.Domain.operations claims c.args.story.now c.args.count bs) (sym c.in_ok-push.ensures.items) (one_more_block g.V.Domain.operations claims c.args.story.now c.args.count c.loop-number.made.items c.block_from.result c.loop-number.number (c.args.count * c.loop-number.number) c.loop-number.invariant.count refl c.block_from.ensures c.loop-number.invariant.told);
      count = search rules;
    }
