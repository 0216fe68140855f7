use Rattle.zengine.proofs.Going as engine
use Rattle.zmachine.proofs.Writable.{lent}
use Rattle.zmachine.proofs.parts.parts_of.Goals as goal

pub invariant_of-result : goal.invariant_of-result
invariant_of-result g c =
    let game = g.R.Rows.game c.args.rows.now in
    let all = g.R.Rows.all c.args.rows.now in
    lent game all _ _ c.requires.own c.requires.few c.requires.played (engine.stands _ game all _ (c.plays.ensures c.requires.played)) c.long.ensures.long c.first-first.ensures.few c.memory-memory.ensures.sound c.saves_are_states.ensures.saved c.requires.inside
