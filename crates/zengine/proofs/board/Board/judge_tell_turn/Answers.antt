use Rattle.std.proofs.Common.{arith}
use Rattle.zengine.specs.declared.doing.Aside.TheVariants as asides
use Rattle.zengine.specs.declared.row.Action.TheVariants as actions
use Rattle.zengine.proofs.Tells as by
use Rattle.zengine.proofs.board.Board.judge_tell_turn.Goals as goal

pub returns-in-None-clause-judges : goal.returns-in-None-clause-judges
returns-in-None-clause-judges c = λ game st. rw c.need_of.ensures (by.by_untold game c.args.rows.now c.args.self.now c.args.self.now (omega arith) (omega arith) st c.args.telling (by.does game c.args.rows.now c.args.self.now c.args.self.now (omega arith) (omega arith) st (actions.Aside (asides.TellTurn c.args.telling c.args.turning)) c.requires.action).tells (rw c.in-None.is at c.told.ensures))

pub returns-then-holds-sense-clause-judges : goal.returns-then-holds-sense-clause-judges
returns-then-holds-sense-clause-judges c = λ game st. by.can_stay game c.args.rows.now c.args.self.now c.args.self.now (omega arith) (omega arith) st c.args.telling (by.does game c.args.rows.now c.args.self.now c.args.self.now (omega arith) (omega arith) st (actions.Aside (asides.TellTurn c.args.telling c.args.turning)) c.requires.action).tells c.in-Some.holds (rw c.in-Some.is at c.told.ensures) c.args.turning (by.does game c.args.rows.now c.args.self.now c.args.self.now (omega arith) (omega arith) st (actions.Aside (asides.TellTurn c.args.telling c.args.turning)) c.requires.action).out (by.does game c.args.rows.now c.args.self.now c.args.self.now (omega arith) (omega arith) st (actions.Aside (asides.TellTurn c.args.telling c.args.turning)) c.requires.action).on (by.other_sense _ _ _ c.sense.ensures c.if-holds-sense.true)

pub way_back-requires : goal.way_back-requires
way_back-requires c = λ some. by.index_within c.requires.stands.0 c.args.rows.now c.args.self.now c.args.self.now (omega arith) (omega arith) c.requires.stands.1 some

pub returns-in-Ok-clause-judges : goal.returns-in-Ok-clause-judges
returns-in-Ok-clause-judges c = λ game st. by.can_back game c.args.rows.now c.args.self.now c.args.self.now (omega arith) (omega arith) st c.args.telling (by.does game c.args.rows.now c.args.self.now c.args.self.now (omega arith) (omega arith) st (actions.Aside (asides.TellTurn c.args.telling c.args.turning)) c.requires.action).tells c.in-Some.holds (rw c.in-Some.is at c.told.ensures) c.args.turning (by.does game c.args.rows.now c.args.self.now c.args.self.now (omega arith) (omega arith) st (actions.Aside (asides.TellTurn c.args.telling c.args.turning)) c.requires.action).out (by.does game c.args.rows.now c.args.self.now c.args.self.now (omega arith) (omega arith) st (actions.Aside (asides.TellTurn c.args.telling c.args.turning)) c.requires.action).on (by.same_sense _ _ _ c.sense.ensures c.if-holds-sense.false) c.in-Ok.ensures.above c.in-Ok.ensures.placed

pub returns-in-Err-clause-judges : goal.returns-in-Err-clause-judges
returns-in-Err-clause-judges c = λ game st. by.no_way c.args.rows.now c.args.self.now _ c.in-Err.halt c.in-Err.ensures.none (by.from_main game c.args.rows.now c.args.self.now c.args.self.now (omega arith) (omega arith) st c.args.telling (by.does game c.args.rows.now c.args.self.now c.args.self.now (omega arith) (omega arith) st (actions.Aside (asides.TellTurn c.args.telling c.args.turning)) c.requires.action).tells c.in-Some.holds (rw c.in-Some.is at c.told.ensures) c.args.turning (by.does game c.args.rows.now c.args.self.now c.args.self.now (omega arith) (omega arith) st (actions.Aside (asides.TellTurn c.args.telling c.args.turning)) c.requires.action).out (by.does game c.args.rows.now c.args.self.now c.args.self.now (omega arith) (omega arith) st (actions.Aside (asides.TellTurn c.args.telling c.args.turning)) c.requires.action).on (by.same_sense _ _ _ c.sense.ensures c.if-holds-sense.false)) (by.by_absent game c.args.rows.now c.args.self.now c.args.self.now (omega arith) (omega arith) st c.args.telling (by.does game c.args.rows.now c.args.self.now c.args.self.now (omega arith) (omega arith) st (actions.Aside (asides.TellTurn c.args.telling c.args.turning)) c.requires.action).tells c.in-Some.holds (rw c.in-Some.is at c.told.ensures) c.args.turning (by.does game c.args.rows.now c.args.self.now c.args.self.now (omega arith) (omega arith) st (actions.Aside (asides.TellTurn c.args.telling c.args.turning)) c.requires.action).out (by.does game c.args.rows.now c.args.self.now c.args.self.now (omega arith) (omega arith) st (actions.Aside (asides.TellTurn c.args.telling c.args.turning)) c.requires.action).on (by.same_sense _ _ _ c.sense.ensures c.if-holds-sense.false))
