use Rattle.std.proofs.Common.{ap, refl, rules, false, true, ◌≡◌}
use Rattle.zengine.specs.declared.row.Spot.{Spot}
use Rattle.zmachine.proofs.Restoring as restoring
use Rattle.zmachine.proofs.resuming.judge_save.Goals as goal

pub returns-then-not-is_save-clause-err : goal.returns-then-not-is_save-clause-err
returns-then-not-is_save-clause-err g c =
    let laid = rw (c.deref.ensures.value, c.memory.ensures) at c.lay_memory.ensures.value in
    let nowhere : c.is_save.result ≡ false = search rules in
    restoring.refused_nowhere (g.R.Rows.game c.args.rows.now) c.args.save.now c.args.board.now c.args.story.now c.requires.own c.lay_memory.new.memory laid c.newest_spot.result (ap (λ (s : Spot). s.place) c.newest_spot.ensures) c.is_save.result c.is_save.ensures nowhere

pub returns-then-not-has_few-clause-err : goal.returns-then-not-has_few-clause-err
returns-then-not-has_few-clause-err g c =
    let laid = rw (c.deref.ensures.value, c.memory.ensures) at c.lay_memory.ensures.value in
    let there : c.is_save.result ≡ true = search rules in
    let many : c.has_few.result ≡ false = search rules in
    restoring.refused_over (g.R.Rows.game c.args.rows.now) c.args.save.now c.args.board.now c.args.story.now c.requires.own c.lay_memory.new.memory laid c.newest_spot.result (ap (λ (s : Spot). s.place) c.newest_spot.ensures) c.is_save.result c.is_save.ensures c.limit.result c.limit.ensures c.has_few.result c.has_few.ensures there many

pub returns-clause-ok : goal.returns-clause-ok
returns-clause-ok g c =
    let laid = rw (c.deref.ensures.value, c.memory.ensures) at c.lay_memory.ensures.value in
    let there : c.is_save.result ≡ true = search rules in
    let few : c.has_few.result ≡ true = search rules in
    restoring.taken_there (g.R.Rows.game c.args.rows.now) c.args.save.now c.args.board.now c.args.story.now c.requires.own c.lay_memory.new.memory laid c.newest_spot.result (ap (λ (s : Spot). s.place) c.newest_spot.ensures) c.is_save.result c.is_save.ensures c.limit.result c.limit.ensures c.has_few.result c.has_few.ensures there few
